use Rattle.std.proofs.Common.{[], ap, refl, subst, sym, ◌∙◌}
use Rattle.std.specs.FinMap.{from_entries}
use Rattle.cluster_core.specs.Configuration.{first_cluster_over}
use Rattle.schedule.specs.Holds.{HoldsAll}
use Rattle.schedule.specs.Stepwise.{HasDoneFrom}
use Rattle.replay.specs.Logged.{log_database}
use Rattle.replay.proofs.Wholes.{pairs_suffice}
use Rattle.logged_schedule.proofs.followed.Followed.over.Goals as goal

pub over-requires-clause-stores : goal.over-requires-clause-stores
over-requires-clause-stores c known =
    let entries = (c.requires.logged known).0 in
    let is = (c.requires.logged known).1 in
    let stores = (log_database entries).stores in
    (stores, subst (λ m. HoldsAll m stores) (sym (ap from_entries c.in_ok-pairs.ensures ∙ pairs_suffice entries c.args.image is)) is.holds)

pub returns-clause-begun : goal.returns-clause-begun
returns-clause-begun c entries is =
    let same = ap from_entries c.in_ok-pairs.ensures ∙ pairs_suffice entries c.args.image is ∙ is.map in
    record {
      done = subst (λ m. HasDoneFrom (first_cluster_over m c.args.config.now) [] [] c.in_ok-schedule.schedule) same c.in_ok-schedule.ensures.begun;
      follows = c.in_ok-following.ensures;
      none_lost = refl;
    }
