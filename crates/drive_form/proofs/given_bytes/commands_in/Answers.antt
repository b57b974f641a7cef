use Rattle.std.proofs.Common.{sym, ◌∙◌}
use Rattle.std.proofs.lemmas.List.{nil_from_length}
use Rattle.drive_form.proofs.Commands.{commands_all}
use Rattle.drive_form.proofs.given_bytes.commands_in.Goals as goal

pub returns-clause-ok : goal.returns-clause-ok
returns-clause-ok c =
    let left = c.loop-step.step-iterator.rest in
    let none = nil_from_length left.items (sym left.ok.0 ∙ c.in-None.ensures.steps.0) in
    commands_all c.args.steps.items left.items c.loop-step.commands.items none c.loop-step.invariant.rest
