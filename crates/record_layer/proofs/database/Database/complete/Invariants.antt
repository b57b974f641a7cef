use Rattle.std.proofs.Common.{◌≤◌, ◌-◌, max}
use Rattle.std.specs.Fn.{CalledAtMut}
use Rattle.runtime.specs.Runs.{InTurn}
use Rattle.record_layer.specs.Working.{Retries}
use Rattle.record_layer.proofs.database.Database.complete.Given as goal

abbrev pub invariant-loop-version : goal.invariant-loop-version
invariant-loop-version g l =
    goal.F-IsAlwaysCallable g l.work
    × (1 ≤ l.number) × (l.number ≤ max 1 l.retry.limit)
    × InTurn (Retries (CalledAtMut g.F.FnMut)) (l.number - 1)
    (record { database = l.initial.self; work = l.initial.work; answer = l.initial.answer; tx = l.initial.tx })
    (record { database = l.self; work = l.work; answer = l.answer; tx = l.tx })

abbrev pub decreases-loop-version : goal.decreases-loop-version
decreases-loop-version g l = l.retry.limit - l.number
