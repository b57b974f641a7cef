use Rattle.std.proofs.Common.{drop}
use Rattle.plan_exec.proofs.EntryCells.{GoesBehind}
use Rattle.plan_exec.proofs.entries.after_columns.Given as goal

abbrev pub invariant-loop-kind : goal.invariant-loop-kind
invariant-loop-kind l = GoesBehind l.kinds l.fn.bytes (drop l.kind-index l.kinds) l.rest
