use Rattle.std.proofs.Common.{◌∙◌, ap}
use Rattle.std.specs.Prelude.{option_map}
use Rattle.std.proofs.lemmas.Result.{err_from_is_err_and}
use Rattle.serde_json.specs.View.{view}
use Rattle.schedule.specs.declared.step.Step.TheVariants.{Perform}
use Rattle.script.proofs.Tables.{performs_with}
use Rattle.script.proofs.step_json.step_with_part.Goals as goal

pub returns-in_err-command_of_one-in_default-clause-err : goal.returns-in_err-command_of_one-in_default-clause-err
returns-in_err-command_of_one-in_default-clause-err c =
    let made = err_from_is_err_and c.from_residual-in_err-command_of_one-in_default.result c.from_residual-in_err-command_of_one-in_default.ensures.1 in
    rw (made.1, made.2)
    (λ bad. performs_with c.args.name.now c.args.number (view c.args.part.now) c.in_default.not-begin ∙ ap (option_map (Perform c.args.number)) (c.in_err-command_of_one-in_default.ensures.err bad))

pub returns-in_ok-command_of_one-in_default-clause-ok : goal.returns-in_ok-command_of_one-in_default-clause-ok
returns-in_ok-command_of_one-in_default-clause-ok c =
    performs_with c.args.name.now c.args.number (view c.args.part.now) c.in_default.not-begin ∙ ap (option_map (Perform c.args.number)) c.in_ok-command_of_one-in_default.ensures.ok
