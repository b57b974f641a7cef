use Rattle.std.proofs.Common.{ap, sym, subst, ◌∙◌}
use Rattle.query.specs.Checked.{query_refusal}
use Rattle.query.specs.View.{query_of}
use Rattle.record_store.specs.Calls.{index_states}
use Rattle.schedule.specs.declared.reply.Reply.TheVariants.{Planned}
use Rattle.schedule.specs.Planning.{IsPlanReply}
use Rattle.schedule.proofs.Plans.{plan_told}
use Rattle.schedule.proofs.planning.plan_reply.Goals as goal

pub returns-in_ok-new-in-Ok : goal.returns-in_ok-new-in-Ok
returns-in_ok-new-in-Ok c =
    let store = c.args.store.now in
    let query = query_of c.query-query.result.now in
    let made = c.in-Ok.ensures in
    subst (λ plan. IsPlanReply store.schema (index_states store) c.args.asked.now (Planned plan)) (sym c.in_ok-new-in-Ok.ensures)
    (subst (λ q. IsPlanReply store.schema (index_states store) q (Planned c.in-Ok.plan)) c.query-query.ensures
    (plan_told store.schema (index_states store) query c.in-Ok.plan (ap (λ s. query_refusal s query) (sym c.schema.ensures) ∙ c.in_default.ensures) made.served made.query made.typed made.is))
