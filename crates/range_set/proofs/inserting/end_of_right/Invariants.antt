use Rattle.std.proofs.Common.{◌≡◌, drop}
use Rattle.range_set.specs.Stored.{end_of_right}
use Rattle.range_set.proofs.inserting.end_of_right.Given as goal

abbrev pub invariant-loop-range : goal.invariant-loop-range
invariant-loop-range l = end_of_right l.ranges l.position ≡ end_of_right (drop l.range-index l.ranges) l.position
