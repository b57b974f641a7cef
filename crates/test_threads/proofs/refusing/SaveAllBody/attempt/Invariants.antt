use Rattle.std.proofs.Common.{◌≡◌}
use Rattle.runtime.specs.Runs.{Continues}
use Rattle.test_threads.proofs.refusing.SaveAllBody.attempt.Given as goal

abbrev pub invariant-loop-number : goal.invariant-loop-number
invariant-loop-number g l =
    (l.tx.client.ghost_name ≡ l.initial.tx.client.ghost_name) × Continues l.initial.tx.client.now l.tx.client.now
