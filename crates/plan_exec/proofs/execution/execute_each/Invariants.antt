use Rattle.std.specs.Prelude.{List, Ok}
use Rattle.std.specs.List.{FoldsTo}
use Rattle.metadata.specs.Record.{Record}
use Rattle.plan_exec.specs.Rows.{level_of}
use Rattle.plan_exec.proofs.Streaming.{count_left}
use Rattle.plan_exec.proofs.Taken.{HasTaken}
use Rattle.plan_exec.proofs.execution.execute_each.Given as goal

abbrev pub invariant-loop-rows : goal.invariant-loop-rows
invariant-loop-rows g l =
    goal.F-IsAlwaysCallable g l.row
    × ((made : List Record) × FoldsTo (λ before given after. goal.F-step g before given (Ok tt) after) l.fn.row made l.row
    × HasTaken (g.S.Snapshot.map_at l.db) (level_of l.initial.rows).stream made (level_of l.rows).stream l.fn.tx l.tx)

abbrev pub decreases-loop-rows : goal.decreases-loop-rows
decreases-loop-rows g l = count_left (g.S.Snapshot.map_at l.db) (level_of l.rows).stream l.tx
