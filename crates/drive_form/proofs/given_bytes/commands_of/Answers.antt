use Rattle.txn.proofs.Exits.{exit_with}
use Rattle.drive_form.specs.Refused.{ExplainsText, of_script}
use Rattle.drive_form.proofs.Commands.{steps_unread, text_unread}
use Rattle.drive_form.proofs.given_bytes.commands_of.Goals as goal

pub returns-clause-ok : goal.returns-clause-ok
returns-clause-ok c = (c.in_ok-script.script.config, c.in_ok-script.script.steps.items, c.in_ok-script.ensures.ok, c.in_ok-commands.ensures.ok)

pub returns-in_err-script-clause-err : goal.returns-in_err-script-clause-err
returns-in_err-script-clause-err c =
    exit_with c.from_residual.result (of_script c.in_err-script.field-0.0) (ExplainsText c.args.text.now) c.from_residual.ensures
    (text_unread c.args.text.now c.in_err-script.field-0.0 c.in_err-script.ensures.err)

pub returns-in_err-commands-clause-err : goal.returns-in_err-commands-clause-err
returns-in_err-commands-clause-err c =
    exit_with c.from_residual-in_err-commands.result c.in_err-commands.field-0.0 (ExplainsText c.args.text.now) c.from_residual-in_err-commands.ensures
    (steps_unread c.args.text.now c.in_ok-script.script.config c.in_ok-script.script.steps.items c.in_err-commands.field-0.0 c.in_ok-script.ensures.ok c.in_err-commands.ensures.err)
