-- Private: the bound that the program's value stands for.
use Rattle.std.specs.Prelude.{List, map, Vec}
use Rattle.std.specs.Global.{Global}
use Rattle.planner.specs.Range as range
use Rattle.explain.specs.declared.bounds.Bound.{Bound}
use Rattle.explain.specs.declared.bounds.Bound.TheVariants as bound

abbrev pub bound_shown : Bound → range.Bound
bound_shown (bound.Above v) = range.above v.now
bound_shown (bound.From v) = range.from v.now
bound_shown (bound.Below v) = range.below v.now
bound_shown (bound.UpTo v) = range.up_to v.now
bound_shown (bound.Prefixed v) = range.prefixed v.now

-- the bounds that a list of the program's values stands for
abbrev pub bounds_shown : Vec Bound Global → List range.Bound
bounds_shown bounds = map bound_shown bounds.items
