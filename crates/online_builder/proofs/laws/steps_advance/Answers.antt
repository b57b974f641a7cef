use Rattle.online_builder.proofs.Advances.{steps_advance}
use Rattle.online_builder.proofs.laws.steps_advance.Goals as goal

pub returns : goal.returns
returns c = steps_advance
