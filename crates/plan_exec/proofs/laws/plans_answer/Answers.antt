use Rattle.plan_exec.proofs.Answers.{answers, planned_answer}
use Rattle.plan_exec.proofs.laws.plans_answer.Goals as goal

pub returns-clause-right : goal.returns-clause-right
returns-clause-right c = answers

pub returns-clause-planned : goal.returns-clause-planned
returns-clause-planned c = planned_answer
