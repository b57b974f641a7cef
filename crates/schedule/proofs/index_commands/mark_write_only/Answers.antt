use Rattle.std.proofs.Common.{refl}
use Rattle.record_store.proofs.Answered.{refused_anyway}
use Rattle.record_store.specs.Calls.{write_only_call}
use Rattle.txn.proofs.Exits.{exit_with}
use Rattle.schedule.specs.declared.step.Command.TheVariants.{WriteOnly}
use Rattle.schedule.proofs.Outcomes.{performed, refused, refused_unopened}
use Rattle.schedule.specs.Serve.{done}
use Rattle.schedule.proofs.IndexServing.{write_only_meets}
use Rattle.schedule.proofs.index_commands.mark_write_only.Goals as goal

pub returns-in_err-store-clause-refused : goal.returns-in_err-store-clause-refused
returns-in_err-store-clause-refused g c =
    exit_with c.from_residual.result c.in_err-store.field-0.0 _ c.from_residual.ensures
    (refused_unopened c.args.number (WriteOnly c.args.name.now) c.in_err-store.field-0.0 refl refl (λ m. refl) c.in_err-store.ensures.refused)

pub returns-in_err-mark_write_only-clause-refused : goal.returns-in_err-mark_write_only-clause-refused
returns-in_err-mark_write_only-clause-refused g c =
    exit_with c.from_residual-in_err-mark_write_only.result c.in_err-mark_write_only.field-0.0 _ c.from_residual-in_err-mark_write_only.ensures
    (refused c.args.number c.in_ok-store.store (WriteOnly c.args.name.now) (λ opened. write_only_call opened c.args.name.now) done c.in_err-mark_write_only.field-0.0 refl c.in_ok-store.ensures.prefix
    (write_only_meets c.args.number c.in_ok-store.store c.args.name.now) c.in_ok-store.ensures.opened (refused_anyway _ _ _ _ _ _ _ (c.in_err-mark_write_only.ensures.refused _)))

pub returns-clause-performed : goal.returns-clause-performed
returns-clause-performed g c =
    performed c.args.number c.in_ok-store.store (WriteOnly c.args.name.now) (λ opened. write_only_call opened c.args.name.now) done c.mark_write_only.new.self.states c.in_ok-store.ensures.prefix
    (write_only_meets c.args.number c.in_ok-store.store c.args.name.now) c.in_ok-store.ensures.opened (c.in_ok-mark_write_only.ensures.marked _)
