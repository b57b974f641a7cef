use Rattle.std.proofs.Common.{◌≡◌, ◌++◌, map, take}
use Rattle.explain.specs.Shown.{bound_text}
use Rattle.explain.specs.View.{bound_shown}
use Rattle.explain.proofs.conditions.push_bounds.Given as goal

abbrev pub invariant-loop-bound : goal.invariant-loop-bound
invariant-loop-bound l = l.conditions.items ≡ l.fn.conditions.items ++ map (bound_text l.name) (map bound_shown (take l.bound-index l.bounds))
