use Rattle.record_layer.proofs.Querying.{answers_in, found_in, unfound_in}
use Rattle.record_layer.proofs.session.Session.query.Goals as goal

pub returns-clause-answers : goal.returns-clause-answers
returns-clause-answers c = answers_in c.args.asked.query c.in_ok-plan.plan _ _ c.in_ok-plan.ensures.planned c.execute.result c.execute.ensures.executed

pub returns-clause-found : goal.returns-clause-found
returns-clause-found c = found_in c.args.asked.query c.in_ok-plan.plan _ _ c.in_ok-plan.ensures.planned c.execute.result c.execute.ensures.executed

pub returns-clause-refused : goal.returns-clause-refused
returns-clause-refused c = unfound_in c.args.asked.query c.in_ok-plan.plan _ _ c.in_ok-plan.ensures.planned c.execute.result c.execute.ensures.refused
