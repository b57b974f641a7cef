use Rattle.std.proofs.Common.{◌∙◌, ap}
use Rattle.kv_core.specs.Map.{after_all}
use Rattle.kv_core.specs.Read.{read_of}
use Rattle.txn.specs.Reads.{seen}
use Rattle.txn.proofs.Deciding.{seen_under}
use Rattle.txn.proofs.transaction.Transaction.seen_pairs.Goals as goal

pub returns-clause-pairs : goal.returns-clause-pairs
returns-clause-pairs g c =
    let request = c.self.inside.request in
    let base = g.S.Snapshot.map_at c.args.db.now request.read_version in
    c.in_ok-pairs.ensures.pairs (after_all request.mutations base) (seen_under c.catch_up.new.self request.mutations c.as_slice.result.now base c.as_slice.ensures c.in_ok-catch_up.ensures.ok)
    ∙ ap (λ t. read_of (seen t (g.S.Snapshot.map_at c.args.db.now t.read_version)) c.args.range.now c.args.limit c.args.reverse) c.self.view_is
