use Rattle.txn.proofs.Exits.{exit_with}
use Rattle.plan_exec.specs.Errors.{exec_memory}
use Rattle.plan_exec.proofs.Packed.{given_memory}
use Rattle.plan_exec.proofs.rows.Rows.next_pushed.Goals as goal

pub returns-in_err-push-in-Some-clause-stopped : goal.returns-in_err-push-in-Some-clause-stopped
returns-in_err-push-in-Some-clause-stopped g c =
    exit_with c.from_residual-in_err-push-in-Some.result exec_memory _ c.from_residual-in_err-push-in-Some.ensures
    (given_memory c.in-Some.row (rw c.in-Some.is at c.in_ok-row.ensures.given))
