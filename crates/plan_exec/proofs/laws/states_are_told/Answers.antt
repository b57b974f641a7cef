use Rattle.plan_exec.proofs.Told.{states_told}
use Rattle.plan_exec.proofs.laws.states_are_told.Goals as goal

pub returns : goal.returns
returns c = states_told
