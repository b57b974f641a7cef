use Rattle.std.proofs.Common.{◌≡◌, ◌∙◌, sym, subst, true}
use Rattle.std.proofs.lemmas.Bool.{true≢false}
use Rattle.kv_core.specs.Change.{write_range}
use Rattle.kv_core.specs.Range.{contains}
use Rattle.kv_core.proofs.Order.{has_keys-from}
use Rattle.cluster_core.specs.Decision.{cut}
use Rattle.cluster_core.specs.Cuts.{contains-cut}
use Rattle.cluster_core.proofs.segments.put_mutation.Goals as goal

pub returns-else-meets-clause-covered : goal.returns-else-meets-clause-covered
returns-else-meets-clause-covered c = λ key owned written.
    let inside : contains c.in-ClearRange.range key ≡ true = subst (λ m. contains (write_range m) key ≡ true) c.in-ClearRange.is written in
    let some = has_keys-from (cut c.args.part.now c.in-ClearRange.range) key (contains-cut c.args.part.now.from c.args.part.now.upto c.in-ClearRange.range key owned inside) in
    absurd (true≢false (sym some ∙ sym c.meets.ensures ∙ c.if-meets.false))
