use Rattle.shell.proofs.Further.{further_one}
use Rattle.shell.proofs.import.Import.step.Goals as goal

pub returns : goal.returns
returns c = further_one _ _ _ _ c.in_ok-schedule.ensures
