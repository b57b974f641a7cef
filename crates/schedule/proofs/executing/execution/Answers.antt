use Rattle.std.proofs.Common.{ap}
use Rattle.schedule.specs.declared.reply.Reply.TheVariants.{Rows}
use Rattle.schedule.specs.Executions.{found}
use Rattle.schedule.proofs.executing.execution.Goals as goal

pub returns-in-Ok-clause-executed : goal.returns-in-Ok-clause-executed
returns-in-Ok-clause-executed g c =
    let told = c.in-Ok.ensures.executed in
    found told.0 (ap Rows told.1) told.2
