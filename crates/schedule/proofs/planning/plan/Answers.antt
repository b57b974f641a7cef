use Rattle.std.proofs.Common.{refl}
use Rattle.record_store.specs.Steps.{no_memory}
use Rattle.txn.proofs.Exits.{exit_with}
use Rattle.schedule.specs.declared.step.Command.TheVariants.{Plan}
use Rattle.schedule.proofs.Outcomes.{refused_unopened}
use Rattle.schedule.proofs.Looking.{looked_memory}
use Rattle.schedule.proofs.Plans.{plan_performed}
use Rattle.schedule.proofs.planning.plan.Goals as goal

pub returns-in_err-store-clause-refused : goal.returns-in_err-store-clause-refused
returns-in_err-store-clause-refused g c =
    exit_with c.from_residual.result c.in_err-store.field-0.0 _ c.from_residual.ensures
    (refused_unopened c.args.number (Plan c.args.asked.now) c.in_err-store.field-0.0 refl refl (λ m. refl) c.in_err-store.ensures.refused)

pub returns-in_err-reply-clause-refused : goal.returns-in_err-reply-clause-refused
returns-in_err-reply-clause-refused g c =
    exit_with c.from_residual-in_err-reply.result no_memory _ c.from_residual-in_err-reply.ensures
    (looked_memory c.args.number c.in_ok-store.store (Plan c.args.asked.now) c.in_ok-store.ensures.prefix refl c.in_ok-store.ensures.opened)

pub returns-clause-performed : goal.returns-clause-performed
returns-clause-performed g c =
    plan_performed c.args.number c.in_ok-store.store c.args.asked.now c.in_ok-reply.reply c.in_ok-store.ensures.prefix c.in_ok-store.ensures.opened c.in_ok-reply.ensures

pub returns-clause-known : goal.returns-clause-known
returns-clause-known g c = λ sees. (c.in_ok-store.ensures.prefix, c.in_ok-store.ensures.there sees)
