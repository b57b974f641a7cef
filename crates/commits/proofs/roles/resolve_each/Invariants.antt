use Rattle.std.proofs.Common.{◌≡◌}
use Rattle.commits.specs.Holds.{with_handled}
use Rattle.commits.proofs.roles.resolve_each.Given as goal

abbrev pub invariant-loop-r : goal.invariant-loop-r
invariant-loop-r g l = g.R.Roles.state l.roles ≡ with_handled l.r 0 (g.R.Roles.state l.initial.roles)
