use Rattle.plan_exec.specs.Rows.{level_of}
use Rattle.plan_exec.proofs.Packed.{ArePacked}
use Rattle.plan_exec.proofs.Streaming.{count_left}
use Rattle.plan_exec.proofs.execution.execute_rows.Given as goal

abbrev pub invariant-loop-rows : goal.invariant-loop-rows
invariant-loop-rows g l = ArePacked (g.S.Snapshot.map_at l.db) (level_of l.initial.rows).stream l.found (level_of l.rows).stream l.fn.tx l.tx

abbrev pub decreases-loop-rows : goal.decreases-loop-rows
decreases-loop-rows g l = count_left (g.S.Snapshot.map_at l.db) (level_of l.rows).stream l.tx
