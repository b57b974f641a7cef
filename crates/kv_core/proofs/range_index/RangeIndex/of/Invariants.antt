use Rattle.std.proofs.Common.{take}
use Rattle.kv_core.specs.RangeIndex.{IsIndexOf}
use Rattle.kv_core.proofs.range_index.RangeIndex.of.Given as goal

-- what is known is that of the ranges so far
abbrev pub invariant-loop-range : goal.invariant-loop-range
invariant-loop-range l = IsIndexOf l.index (take l.range-index l.ranges)
