use Rattle.std.proofs.Common.{◌≡◌, [], take}
use Rattle.range_set.specs.Steps.{last_end}
use Rattle.range_set.specs.Stored.{ArePairsOf}
use Rattle.range_set.proofs.decoding.ranges_found.Given as goal

abbrev pub invariant-loop-pair : goal.invariant-loop-pair
invariant-loop-pair l = record {
  pairs : ArePairsOf l.place (take l.pair-index l.pairs) l.ranges.items;
  ends : l.end ≡ last_end [] l.ranges.items;
}
