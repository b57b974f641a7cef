use Rattle.txn.proofs.Exits.{exit_with}
use Rattle.drive_form.specs.Refused.{ExplainsRefusal, of_call}
use Rattle.drive_form.proofs.Telling.{call_refused}
use Rattle.drive_form.proofs.drive_bytes.Goals as goal

pub returns-clause-ok : goal.returns-clause-ok
returns-clause-ok c = record {
  given = c.in_ok-given.given;
  read = c.in_ok-given.ensures.ok;
  allowed = c.in_ok-driven.ensures.allowed;
  driven = c.in_ok-driven.driven;
  answered = c.in_ok-driven.ensures.done;
  written = c.in_ok-bytes.ensures;
}

pub returns-in_err-driven-clause-err : goal.returns-in_err-driven-clause-err
returns-in_err-driven-clause-err c =
    exit_with c.from_residual-in_err-driven.result (of_call c.in_err-driven.field-0.0) (ExplainsRefusal c.args.given.now) c.from_residual-in_err-driven.ensures
    (call_refused c.args.given.now c.in_ok-given.given c.in_err-driven.field-0.0 c.in_ok-given.ensures.ok c.in_err-driven.ensures.refused)
