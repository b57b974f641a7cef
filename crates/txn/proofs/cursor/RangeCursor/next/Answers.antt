use Rattle.std.proofs.Common.{◌∙◌, ap, arith}
use Rattle.kv_core.specs.Read.{range_read}
use Rattle.txn.specs.Cursor.{rest_behind}
use Rattle.txn.proofs.Cursors.{batch_read}
use Rattle.txn.proofs.Deciding.{last_seen}
use Rattle.txn.proofs.cursor.RangeCursor.next.Goals as goal

pub range_read-requires : goal.range_read-requires
range_read-requires g c = λ full.
    last_seen c.args.tx.now (g.S.Snapshot.map_at c.args.db.now c.args.tx.now.read_version) c.in-Some.range 64 c.args.self.now.reverse c.as_slice.result.now (omega arith)
    (c.as_slice.ensures.value ∙ c.in_ok-pairs.ensures.pairs) full

pub rest_behind-requires : goal.rest_behind-requires
rest_behind-requires g c = λ full.
    last_seen c.args.tx.now (g.S.Snapshot.map_at c.args.db.now c.args.tx.now.read_version) c.in-Some.range 64 c.args.self.now.reverse c.as_slice-2.result.now (omega arith)
    (c.as_slice-2.ensures.value ∙ c.in_ok-pairs.ensures.pairs) full

pub returns-clause-next : goal.returns-clause-next
returns-clause-next g c =
    batch_read (g.S.Snapshot.map_at c.args.db.now) c.args.tx.now c.seen_pairs.new.self c.add_read.new.self c.args.self.now
    c.in-Some.range c.in_ok-read.read c.in_ok-rest.rest c.in_ok-pairs.pairs.items c.in-Some.is c.in_ok-pairs.ensures.pairs c.in_ok-pairs.ensures.kept
    (c.in_ok-read.ensures ∙ ap (range_read c.in-Some.range 64 c.args.self.now.reverse) c.as_slice.ensures.value)
    (c.in_ok-rest.ensures ∙ ap (rest_behind c.in-Some.range 64 c.args.self.now.reverse) c.as_slice-2.ensures.value)
    c.in_ok-add_read.ensures.ok
