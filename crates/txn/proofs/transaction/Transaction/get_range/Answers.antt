use Rattle.std.proofs.Common.{◌∙◌, ap, refl}
use Rattle.kv_core.specs.Range.{with_range}
use Rattle.kv_core.specs.Read.{range_read}
use Rattle.txn.proofs.Deciding.{last_seen, range_answer}
use Rattle.txn.proofs.transaction.Transaction.get_range.Goals as goal

pub range_read-requires : goal.range_read-requires
range_read-requires g c = λ full.
    last_seen c.args.self.now (g.S.Snapshot.map_at c.args.db.now c.args.self.now.read_version) c.args.range.now c.args.limit c.args.reverse c.as_slice.result.now c.requires
    (c.as_slice.ensures.value ∙ c.in_ok-pairs.ensures.pairs) full

pub returns-clause-answer : goal.returns-clause-answer
returns-clause-answer g c = λ m agree.
    range_answer (g.S.Snapshot.map_at c.args.db.now) c.args.self.now c.args.self.now c.args.range.now c.in_ok-read.read c.args.limit c.args.reverse c.in_ok-pairs.pairs.items c.add_read.new.self.reads
    refl c.requires c.in_ok-pairs.ensures.pairs (c.in_ok-read.ensures ∙ ap (range_read c.args.range.now c.args.limit c.args.reverse) c.as_slice.ensures.value)
    (ap (λ t. t.reads) c.in_ok-add_read.ensures.ok ∙ ap (λ t. with_range c.in_ok-read.read t.reads) c.in_ok-pairs.ensures.kept) m agree
