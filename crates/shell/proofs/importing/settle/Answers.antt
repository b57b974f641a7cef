use Rattle.shell.proofs.Further.{further_one}
use Rattle.shell.proofs.importing.settle.Goals as goal

pub returns : goal.returns
returns g c = further_one _ _ _ _ c.in_ok-schedule.ensures
