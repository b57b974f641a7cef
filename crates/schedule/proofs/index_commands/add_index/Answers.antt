use Rattle.std.proofs.Common.{refl}
use Rattle.record_store.specs.Calls.{index_call}
use Rattle.txn.proofs.Exits.{exit_with}
use Rattle.schedule.specs.declared.step.Command.TheVariants.{Index}
use Rattle.schedule.proofs.Outcomes.{performed, refused, refused_unopened}
use Rattle.schedule.specs.declared.reply.Reply.TheVariants as reply
use Rattle.schedule.proofs.IndexServing.{index_meets}
use Rattle.schedule.proofs.index_commands.add_index.Goals as goal

pub returns-in_err-store-clause-refused : goal.returns-in_err-store-clause-refused
returns-in_err-store-clause-refused g c =
    exit_with c.from_residual.result c.in_err-store.field-0.0 _ c.from_residual.ensures
    (refused_unopened c.args.number (Index c.args.request.now) c.in_err-store.field-0.0 refl refl (λ m. refl) c.in_err-store.ensures.refused)

pub returns-in_err-state-clause-refused : goal.returns-in_err-state-clause-refused
returns-in_err-state-clause-refused g c =
    exit_with c.from_residual-in_err-state.result c.in_err-state.field-0.0 _ c.from_residual-in_err-state.ensures
    (refused c.args.number c.in_ok-store.store (Index c.args.request.now) (λ opened. index_call opened c.args.request.now) reply.Indexed c.in_err-state.field-0.0 refl c.in_ok-store.ensures.prefix
    (index_meets c.args.number c.in_ok-store.store c.args.request.now) c.in_ok-store.ensures.opened c.in_err-state.ensures.refused)

pub returns-clause-performed : goal.returns-clause-performed
returns-clause-performed g c =
    performed c.args.number c.in_ok-store.store (Index c.args.request.now) (λ opened. index_call opened c.args.request.now) reply.Indexed c.in_ok-state.state c.in_ok-store.ensures.prefix
    (index_meets c.args.number c.in_ok-store.store c.args.request.now) c.in_ok-store.ensures.opened c.in_ok-state.ensures.added
