use Rattle.std.proofs.Common.{refl}
use Rattle.record_store.specs.Calls.{readable_call}
use Rattle.txn.proofs.Exits.{exit_with}
use Rattle.schedule.specs.declared.step.Command.TheVariants.{Readable}
use Rattle.schedule.proofs.Outcomes.{performed, refused, refused_unopened}
use Rattle.schedule.specs.Serve.{done}
use Rattle.schedule.proofs.IndexServing.{readable_meets}
use Rattle.schedule.proofs.index_commands.mark_readable.Goals as goal

pub returns-in_err-store-clause-refused : goal.returns-in_err-store-clause-refused
returns-in_err-store-clause-refused g c =
    exit_with c.from_residual.result c.in_err-store.field-0.0 _ c.from_residual.ensures
    (refused_unopened c.args.number (Readable c.args.name.now) c.in_err-store.field-0.0 refl refl (λ m. refl) c.in_err-store.ensures.refused)

pub returns-in_err-mark_readable-clause-refused : goal.returns-in_err-mark_readable-clause-refused
returns-in_err-mark_readable-clause-refused g c =
    exit_with c.from_residual-in_err-mark_readable.result c.in_err-mark_readable.field-0.0 _ c.from_residual-in_err-mark_readable.ensures
    (refused c.args.number c.in_ok-store.store (Readable c.args.name.now) (λ opened. readable_call opened c.args.name.now) done c.in_err-mark_readable.field-0.0 refl c.in_ok-store.ensures.prefix
    (readable_meets c.args.number c.in_ok-store.store c.args.name.now) c.in_ok-store.ensures.opened c.in_err-mark_readable.ensures.refused)

pub returns-clause-performed : goal.returns-clause-performed
returns-clause-performed g c =
    performed c.args.number c.in_ok-store.store (Readable c.args.name.now) (λ opened. readable_call opened c.args.name.now) done c.mark_readable.new.self.states c.in_ok-store.ensures.prefix
    (readable_meets c.args.number c.in_ok-store.store c.args.name.now) c.in_ok-store.ensures.opened c.in_ok-mark_readable.ensures.marked
