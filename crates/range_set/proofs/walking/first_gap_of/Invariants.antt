use Rattle.std.proofs.Common.{◌≡◌, [], drop}
use Rattle.range_set.specs.Steps.{gap_from}
use Rattle.range_set.proofs.walking.first_gap_of.Given as goal

abbrev pub invariant-loop-range : goal.invariant-loop-range
invariant-loop-range l = gap_from [] l.ranges ≡ gap_from l.begin (drop l.range-index l.ranges)
