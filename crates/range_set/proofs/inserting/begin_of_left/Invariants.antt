use Rattle.std.proofs.Common.{◌≡◌, drop}
use Rattle.range_set.specs.Stored.{begin_of_left}
use Rattle.range_set.proofs.inserting.begin_of_left.Given as goal

abbrev pub invariant-loop-range : goal.invariant-loop-range
invariant-loop-range l = begin_of_left l.ranges l.position ≡ begin_of_left (drop l.range-index l.ranges) l.position
