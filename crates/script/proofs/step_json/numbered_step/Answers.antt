use Rattle.std.proofs.Common.{arith}
use Rattle.script.proofs.Tables.{no_numbered_step}
use Rattle.script.proofs.step_json.numbered_step.Goals as goal

pub returns-in_default-clause-err : goal.returns-in_default-clause-err
returns-in_default-clause-err c = λ _. no_numbered_step c.args.name.now c.args.number c.args.parts.now (omega (arith, c.in_default.len_at_least))
