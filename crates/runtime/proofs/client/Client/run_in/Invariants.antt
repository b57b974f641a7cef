use Rattle.std.proofs.Common.{◌≤◌, ◌-◌, max}
use Rattle.runtime.specs.Runs.{AttemptFails, GoesOnFrom, InTurn}
use Rattle.runtime.proofs.client.Client.run_in.Given as goal

abbrev pub invariant-loop-both : goal.invariant-loop-both
invariant-loop-both g l =
    GoesOnFrom l.initial.self l.self
    × (1 ≤ l.number) × (l.number ≤ max 1 l.retry.limit)
    × InTurn (AttemptFails l.store g.B.Body.did l.repeatable) (l.number - 1) (l.initial.body, l.initial.self) (l.body, l.self)

abbrev pub decreases-loop-both : goal.decreases-loop-both
decreases-loop-both g l = l.retry.limit - l.number
