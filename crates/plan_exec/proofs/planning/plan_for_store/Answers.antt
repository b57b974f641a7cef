use Rattle.std.proofs.Common.{◌≡◌, ◌∙◌, Some, IfOk, subst}
use Rattle.metadata.specs.Schema.{find_type}
use Rattle.query.specs.View.{query_of}
use Rattle.planner.specs.View.{plan_of}
use Rattle.plan_exec.proofs.Told.{plan_answers_query, plan_scans_readable, uses_only}
use Rattle.plan_exec.proofs.planning.plan_for_store.Goals as goal

pub returns-clause-usable : goal.returns-clause-usable
returns-clause-usable c =
    uses_only c.args.store.now c.plan.result c.schema.result.now c.as_slice.result.now c.schema.ensures (c.as_slice.ensures.value ∙ c.in_ok-states.ensures) c.plan.ensures.usable

pub returns-clause-scannable : goal.returns-clause-scannable
returns-clause-scannable c = plan_scans_readable c.args.store.now c.plan.result (returns-clause-usable c)

pub returns-clause-answers : goal.returns-clause-answers
returns-clause-answers c =
    plan_answers_query c.args.store.now (query_of c.args.query.now) c.plan.result
    (subst (λ schema. IfOk c.plan.result (λ p. find_type schema c.args.query.now.record_type ≡ Some (plan_of p).definition)) c.schema.ensures c.plan.ensures.typed)
    c.plan.ensures.right (returns-clause-usable c)
