use Rattle.explain.specs.File.{asked_plan}
use Rattle.explain.proofs.Plans.{planned_as_asked, refused_as_asked}
use Rattle.explain.proofs.planning.plan_requested.Goals as goal

pub returns-clause-ok : goal.returns-clause-ok
returns-clause-ok c = planned_as_asked c.plan_under.result (asked_plan c.args.request.now) c.in_ok-schema.schema c.in_ok-schema.ensures.ok (rw c.as_slice.ensures.value at c.plan_under.ensures.ok)

pub returns-clause-err : goal.returns-clause-err
returns-clause-err c = refused_as_asked c.plan_under.result (asked_plan c.args.request.now) c.in_ok-schema.schema c.in_ok-schema.ensures.ok (rw c.as_slice.ensures.value at c.plan_under.ensures.err)
