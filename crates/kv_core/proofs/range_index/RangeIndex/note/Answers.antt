use Rattle.std.proofs.Common.{arith}
use Rattle.std.proofs.lemmas.List.{get_or_read, length-set}
use Rattle.kv_core.proofs.Indexes.{noted}
use Rattle.kv_core.proofs.range_index.RangeIndex.note.Goals as goal

pub returns-clause-ok : goal.returns-clause-ok
returns-clause-ok c =
    let last = c.args.self.now.last.items in
    let before = c.args.self.now.before in (
      length-set last c.args.bucket c.len.result,
      λ ranges range bucket has some.
          noted last before.items c.push.new.self.items c.args.bucket c.index.result.now c.len.result ranges range c.requires
          (omega (arith, c.len.ensures, c.in_ok-push.ensures.len, before.ok.0)) (get_or_read last _ _ c.requires c.index.ensures 0) c.in_ok-push.ensures.items bucket
          (has (omega (arith, c.requires))),
    )
