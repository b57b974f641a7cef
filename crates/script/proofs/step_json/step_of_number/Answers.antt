use Rattle.script.proofs.Tables.{no_step_of_number}
use Rattle.script.proofs.step_json.step_of_number.Goals as goal

pub returns-in_default-clause-err : goal.returns-in_default-clause-err
returns-in_default-clause-err c = λ _.
    let n = c.in_default in
    no_step_of_number c.args.name.now c.args.number n.not-begin n.not-execute n.not-commit n.not-abandon n.not-resolve n.not-log n.not-pull
