use Rattle.plan_exec.proofs.Answers.{scannable}
use Rattle.plan_exec.proofs.laws.usable_are_scannable.Goals as goal

pub returns : goal.returns
returns c = scannable
