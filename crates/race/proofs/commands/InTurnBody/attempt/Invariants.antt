use Rattle.std.proofs.Common.{◌≡◌, drop}
use Rattle.runtime.specs.Clients.{Knowledge}
use Rattle.runtime.specs.Runs.{Continues}
use Rattle.race.specs.Runs.{CallsEach}
use Rattle.race.proofs.commands.InTurnBody.attempt.Given as goal

abbrev pub invariant-loop-command : goal.invariant-loop-command
invariant-loop-command g l =
    (l.tx.client.ghost_name ≡ l.initial.tx.client.ghost_name) × Continues l.initial.tx.client.now l.tx.client.now
    × ((end : Knowledge) → CallsEach (drop l.command-index l.self.commands.now) l.tx.client.now end → CallsEach l.self.commands.now l.initial.tx.client.now end)
