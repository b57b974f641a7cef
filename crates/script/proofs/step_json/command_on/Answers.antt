use Rattle.serde_json.specs.View.{view}
use Rattle.script.proofs.Tables.{no_command_on}
use Rattle.script.proofs.step_json.command_on.Goals as goal

pub returns-in_default-clause-err : goal.returns-in_default-clause-err
returns-in_default-clause-err c = λ _.
    let n = c.in_default in
    no_command_on c.args.name.now (view c.args.owner.now) (view c.args.part.now) n.not-save n.not-load n.not-remove n.not-aggregate n.not-build n.not-field
