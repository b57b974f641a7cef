use Rattle.std.proofs.Common.{refl, subst, ap, ◌∙◌}
use Rattle.query.specs.View.{query_of}
use Rattle.txn.proofs.Exits.{exit_with}
use Rattle.schedule.specs.declared.step.Command.TheVariants.{Execute}
use Rattle.schedule.specs.Calls.{IsCommandRefused}
use Rattle.schedule.specs.Performed.{IsPerformed}
use Rattle.schedule.proofs.Executions.{execution_performed, plan_executes, unexecuted}
use Rattle.schedule.proofs.Outcomes.{refused_unopened}
use Rattle.schedule.proofs.KnownStores.{execution_stays}
use Rattle.schedule.proofs.executing.execute.Goals as goal

pub returns-in_err-store-clause-refused : goal.returns-in_err-store-clause-refused
returns-in_err-store-clause-refused g c =
    exit_with c.from_residual.result c.in_err-store.field-0.0 _ c.from_residual.ensures
    (refused_unopened c.args.number (Execute c.args.plan.now) c.in_err-store.field-0.0 refl refl (λ m. refl) c.in_err-store.ensures.refused)

pub returns-in_err-reply-clause-refused : goal.returns-in_err-reply-clause-refused
returns-in_err-reply-clause-refused g c =
    exit_with c.from_residual-in_err-reply.result c.in_err-reply.field-0.0 _ c.from_residual-in_err-reply.ensures
    (subst (λ plan. IsCommandRefused c.args.number (g.S.Snapshot.map_at c.args.db.now) (g.S.Snapshot.may_refuse c.args.db.now) (Execute plan) c.in_err-reply.field-0.0 c.args.tx.now c.execution.new.tx) c.plan-plan.ensures
    (unexecuted c.args.number c.in_ok-store.store (Execute c.plan-plan.result.now) c.plan-plan.result.now c.in_ok-store.ensures.prefix
    (plan_executes c.args.number c.in_ok-store.store c.plan-plan.result.now (c.query.ensures.typed ∙ ap (λ q. (query_of q).record_type) c.query.ensures.query))
    c.in_ok-store.ensures.opened c.in_err-reply.field-0.0 c.in_err-reply.ensures.refused))

pub returns-clause-performed : goal.returns-clause-performed
returns-clause-performed g c =
    subst (λ plan. IsPerformed c.args.number (g.S.Snapshot.map_at c.args.db.now) (λ range. g.S.Snapshot.may_refuse c.args.db.now range c.args.tx.now.read_version) (Execute plan) c.in_ok-reply.reply c.args.tx.now c.execution.new.tx) c.plan-plan.ensures
    (execution_performed c.args.number c.in_ok-store.store c.plan-plan.result.now c.in_ok-reply.reply c.in_ok-store.ensures.prefix (c.query.ensures.typed ∙ ap (λ q. (query_of q).record_type) c.query.ensures.query)
    c.in_ok-store.ensures.opened c.in_ok-reply.ensures.executed)

pub returns-clause-known : goal.returns-clause-known
returns-clause-known g c = λ sees. (
  c.in_ok-store.ensures.prefix,
  execution_stays (g.S.Snapshot.map_at c.args.db.now) c.in_ok-store.store _ _ c.plan-plan.result.now c.in_ok-reply.reply c.in_ok-reply.ensures.executed (c.in_ok-store.ensures.there sees),
)
