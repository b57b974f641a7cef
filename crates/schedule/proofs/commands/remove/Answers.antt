use Rattle.std.proofs.Common.{refl}
use Rattle.record_store.specs.Calls.{remove_call}
use Rattle.txn.proofs.Exits.{exit_with}
use Rattle.schedule.specs.Serve.{reply_to_remove}
use Rattle.schedule.specs.declared.step.Command.TheVariants.{Remove}
use Rattle.schedule.proofs.Outcomes.{answered_as, performed, refused, refused_unopened}
use Rattle.schedule.proofs.Serving.{remove_meets}
use Rattle.schedule.proofs.KnownStores.{remove_stays}
use Rattle.schedule.proofs.commands.remove.Goals as goal

pub returns-in_err-store-clause-refused : goal.returns-in_err-store-clause-refused
returns-in_err-store-clause-refused g c =
    exit_with c.from_residual.result c.in_err-store.field-0.0 _ c.from_residual.ensures
    (refused_unopened c.args.number (Remove c.args.type_name.now c.args.cells.now) c.in_err-store.field-0.0 refl refl (λ m. refl) c.in_err-store.ensures.refused)

pub returns-in_err-was_there-clause-refused : goal.returns-in_err-was_there-clause-refused
returns-in_err-was_there-clause-refused g c =
    exit_with c.from_residual-in_err-was_there.result c.in_err-was_there.field-0.0 _ c.from_residual-in_err-was_there.ensures
    (refused c.args.number c.in_ok-store.store (Remove c.args.type_name.now c.args.cells.now) (λ opened. remove_call opened c.args.type_name.now c.args.cells.now) reply_to_remove c.in_err-was_there.field-0.0 refl c.in_ok-store.ensures.prefix
    (remove_meets c.args.number c.in_ok-store.store c.args.type_name.now c.args.cells.now) c.in_ok-store.ensures.opened c.in_err-was_there.ensures.refused)

pub returns-clause-performed : goal.returns-clause-performed
returns-clause-performed g c =
    answered_as c.args.number c.removed_reply.ensures
    (performed c.args.number c.in_ok-store.store (Remove c.args.type_name.now c.args.cells.now) (λ opened. remove_call opened c.args.type_name.now c.args.cells.now) reply_to_remove c.in_ok-was_there.was_there c.in_ok-store.ensures.prefix
    (remove_meets c.args.number c.in_ok-store.store c.args.type_name.now c.args.cells.now) c.in_ok-store.ensures.opened c.in_ok-was_there.ensures.removed)

pub returns-clause-known : goal.returns-clause-known
returns-clause-known g c = λ sees. (
  c.in_ok-store.ensures.prefix,
  remove_stays (g.S.Snapshot.map_at c.args.db.now) c.in_ok-store.store _ _ c.args.type_name.now c.args.cells.now c.in_ok-was_there.was_there c.in_ok-was_there.ensures.removed (c.in_ok-store.ensures.there sees),
)
