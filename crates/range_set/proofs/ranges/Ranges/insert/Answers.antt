use Rattle.std.proofs.Common.{◌∙◌, ap, subst, sym}
use Rattle.range_set.specs.Stored.{Joins, insertion}
use Rattle.range_set.specs.Told.{ApartAt}
use Rattle.txn.specs.Reads.{seen, with_mutations}
use Rattle.range_set.proofs.Joined.{seen_then}
use Rattle.range_set.proofs.ranges.Ranges.insert.Goals as goal

pub returns-clause-joins : goal.returns-clause-joins
returns-clause-joins c = λ m told.
    subst (λ n. Joins c.args.place.now c.args.range.now (seen c.args.tx.now m) n)
    (sym (seen_then (insertion c.args.place.now c.args.self.now c.args.range.now) c.args.tx.now c.write_all.new.self m
    (c.in_ok-write_all.ensures.ok ∙ ap (λ written. with_mutations written c.args.tx.now) c.in_ok-mutations.ensures.mutations)))
    (c.in_ok-mutations.ensures.joins (seen c.args.tx.now m) told)

pub returns-clause-apart : goal.returns-clause-apart
returns-clause-apart c = λ m told.
    subst (λ n. ApartAt c.args.place.now c.args.range.now c.args.self.now n)
    (sym (seen_then (insertion c.args.place.now c.args.self.now c.args.range.now) c.args.tx.now c.write_all.new.self m
    (c.in_ok-write_all.ensures.ok ∙ ap (λ written. with_mutations written c.args.tx.now) c.in_ok-mutations.ensures.mutations)))
    (c.in_ok-mutations.ensures.apart (seen c.args.tx.now m) told)
