use Rattle.std.proofs.Common.{◌≡◌}
use Rattle.runtime.specs.Runs.{Continues}
use Rattle.test_threads.proofs.transactions.follow_all.Given as goal

abbrev pub invariant-loop-numbered : goal.invariant-loop-numbered
invariant-loop-numbered g l =
    (l.tx.client.ghost_name ≡ l.initial.tx.client.ghost_name)
    × Continues l.initial.tx.client.now l.tx.client.now
