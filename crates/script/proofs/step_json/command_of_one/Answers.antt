use Rattle.serde_json.specs.View.{view}
use Rattle.script.proofs.Tables.{no_command_with}
use Rattle.script.proofs.step_json.command_of_one.Goals as goal

pub returns-in_default-clause-err : goal.returns-in_default-clause-err
returns-in_default-clause-err c = λ _.
    let n = c.in_default in
    no_command_with c.args.name.now (view c.args.part.now) n.not-create n.not-type n.not-query n.not-plan n.not-index n.not-drop n.not-disable n.not-write_only n.not-readable n.not-state
