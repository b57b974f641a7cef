use Rattle.std.proofs.Common.{refl}
use Rattle.record_store.specs.Calls.{save_as_call}
use Rattle.txn.proofs.Exits.{exit_with}
use Rattle.schedule.specs.declared.step.Command.TheVariants.{Save}
use Rattle.schedule.proofs.Outcomes.{answered_as, performed, refused, refused_unopened}
use Rattle.schedule.specs.Serve.{reply_to_save}
use Rattle.schedule.proofs.Serving.{save_meets}
use Rattle.schedule.proofs.KnownStores.{save_stays}
use Rattle.schedule.proofs.commands.save.Goals as goal

pub returns-in_err-store-clause-refused : goal.returns-in_err-store-clause-refused
returns-in_err-store-clause-refused g c =
    exit_with c.from_residual.result c.in_err-store.field-0.0 _ c.from_residual.ensures
    (refused_unopened c.args.number (Save c.args.type_name.now c.args.cells.now) c.in_err-store.field-0.0 refl refl (λ m. refl) c.in_err-store.ensures.refused)

pub returns-in_err-old-clause-refused : goal.returns-in_err-old-clause-refused
returns-in_err-old-clause-refused g c =
    exit_with c.from_residual-in_err-old.result c.in_err-old.field-0.0 _ c.from_residual-in_err-old.ensures
    (refused c.args.number c.in_ok-store.store (Save c.args.type_name.now c.args.cells.now) (λ opened. save_as_call opened c.args.type_name.now c.args.cells.now) reply_to_save c.in_err-old.field-0.0 refl c.in_ok-store.ensures.prefix
    (save_meets c.args.number c.in_ok-store.store c.args.type_name.now c.args.cells.now) c.in_ok-store.ensures.opened c.in_err-old.ensures.refused)

pub returns-clause-performed : goal.returns-clause-performed
returns-clause-performed g c =
    answered_as c.args.number c.saved_reply.ensures
    (performed c.args.number c.in_ok-store.store (Save c.args.type_name.now c.args.cells.now) (λ opened. save_as_call opened c.args.type_name.now c.args.cells.now) reply_to_save c.in_ok-old.old c.in_ok-store.ensures.prefix
    (save_meets c.args.number c.in_ok-store.store c.args.type_name.now c.args.cells.now) c.in_ok-store.ensures.opened c.in_ok-old.ensures.saved)

pub returns-clause-known : goal.returns-clause-known
returns-clause-known g c = λ sees. (
  c.in_ok-store.ensures.prefix,
  save_stays (g.S.Snapshot.map_at c.args.db.now) c.in_ok-store.store _ _ c.args.type_name.now c.args.cells.now c.in_ok-old.old c.in_ok-old.ensures.saved (c.in_ok-store.ensures.there sees),
)
