use Rattle.std.proofs.Common.{map, option_map, take}
use Rattle.near_names.specs.Near.{IsBest}
use Rattle.near_names.proofs.nearest_of.Given as goal

abbrev pub invariant-loop-one : goal.invariant-loop-one
invariant-loop-one l =
    IsBest l.name (map (λ one. one.now) (take l.one-index l.known)) l.best.least (option_map (λ one. one.now) l.best.found)
