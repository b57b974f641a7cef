use Rattle.plan_exec.specs.Rows.{level_of}
use Rattle.plan_exec.proofs.Streaming.{count_left}
use Rattle.plan_exec.proofs.Taken.{HasTaken}
use Rattle.plan_exec.proofs.execution.execute.Given as goal

abbrev pub invariant-loop-rows : goal.invariant-loop-rows
invariant-loop-rows g l = HasTaken (g.S.Snapshot.map_at l.db) (level_of l.initial.rows).stream l.found.items (level_of l.rows).stream l.fn.tx l.tx

abbrev pub decreases-loop-rows : goal.decreases-loop-rows
decreases-loop-rows g l = count_left (g.S.Snapshot.map_at l.db) (level_of l.rows).stream l.tx
