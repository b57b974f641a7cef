use Rattle.std.proofs.Common.{◌≡◌}
use Rattle.runtime.proofs.db.place.Given as goal

abbrev pub invariant-loop : goal.invariant-loop
invariant-loop l = l.state ≡ l.initial.state
