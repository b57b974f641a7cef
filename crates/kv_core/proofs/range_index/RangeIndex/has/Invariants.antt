use Rattle.std.proofs.Common.{length, map}
use Rattle.kv_core.specs.RangeIndex.{bucket_of}
use Rattle.kv_core.proofs.Indexes.{IsLeft}
use Rattle.kv_core.proofs.range_index.RangeIndex.has.Given as goal

-- if the list has the range, it stands before the place
abbrev pub invariant-loop-place : goal.invariant-loop-place
invariant-loop-place l =
    IsLeft l.range l.ranges (map (bucket_of (length l.self.last.items)) l.ranges) (bucket_of (length l.self.last.items) l.range) l.place

abbrev pub decreases-loop-place : goal.decreases-loop-place
decreases-loop-place l = l.place
