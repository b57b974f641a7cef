use Rattle.std.proofs.Common.{◌≡◌}
use Rattle.commits.specs.Holds.{with_handled}
use Rattle.commits.proofs.roles.append_each.Given as goal

abbrev pub invariant-loop-l : goal.invariant-loop-l
invariant-loop-l g l = g.R.Roles.state l.roles ≡ with_handled 0 l.l (g.R.Roles.state l.initial.roles)
