use Rattle.std.proofs.Common.{◌∙◌, ap}
use Rattle.std.specs.FinMap.{get}
use Rattle.kv_core.specs.Range.{with_range}
use Rattle.txn.proofs.Deciding.{get_answer}
use Rattle.txn.proofs.transaction.Transaction.get.Goals as goal

pub returns-clause-answer : goal.returns-clause-answer
returns-clause-answer g c = λ m agree.
    let maps = g.S.Snapshot.map_at c.args.db.now in
    get_answer maps c.args.self.now c.args.key.now c.in_ok-range.range c.in_ok-stored.stored c.in_ok-value.value c.add.new.self
    c.in_ok-range.ensures (c.in_ok-stored.ensures.value ∙ ap (λ t. get (maps t.read_version) c.args.key.now) c.self.view_is) c.in_ok-value.ensures.value
    (c.in_ok-add.ensures.ok ∙ ap (λ t. with_range c.in_ok-range.range t.reads) (c.self-2.view_is ∙ c.in_ok-value.ensures.kept)) m agree
