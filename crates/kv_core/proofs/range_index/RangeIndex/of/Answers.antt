use Rattle.std.proofs.Common.{◌<◌, length, subst, sym}
use Rattle.kv_core.proofs.Indexes.{bucket_within}
use Rattle.kv_core.proofs.range_index.RangeIndex.of.Goals as goal

pub note-requires : goal.note-requires
note-requires c =
    let last = c.loop-range.index.last.items in
    subst (λ bucket. bucket < length last) (sym c.bucket.ensures) (bucket_within (length last) c.range-item.result c.loop-range.invariant.0)
