use Rattle.std.proofs.Common.{refl, ◌∙◌}
use Rattle.record_store.specs.Calls.{load_call}
use Rattle.txn.proofs.Exits.{exit_with}
use Rattle.schedule.specs.declared.step.Command.TheVariants.{Load}
use Rattle.schedule.proofs.Outcomes.{answered_as, performed, refused, refused_unopened}
use Rattle.schedule.specs.Serve.{reply_to_load}
use Rattle.schedule.proofs.Serving.{load_meets, loaded_is}
use Rattle.schedule.proofs.KnownStores.{load_stays}
use Rattle.schedule.proofs.commands.load.Goals as goal

pub returns-in_err-store-clause-refused : goal.returns-in_err-store-clause-refused
returns-in_err-store-clause-refused g c =
    exit_with c.from_residual.result c.in_err-store.field-0.0 _ c.from_residual.ensures
    (refused_unopened c.args.number (Load c.args.type_name.now c.args.cells.now) c.in_err-store.field-0.0 refl refl (λ m. refl) c.in_err-store.ensures.refused)

pub returns-in_err-found-clause-refused : goal.returns-in_err-found-clause-refused
returns-in_err-found-clause-refused g c =
    exit_with c.from_residual-in_err-found.result c.in_err-found.field-0.0 _ c.from_residual-in_err-found.ensures
    (refused c.args.number c.in_ok-store.store (Load c.args.type_name.now c.args.cells.now) (λ opened. load_call opened c.args.type_name.now c.args.cells.now) reply_to_load c.in_err-found.field-0.0 refl c.in_ok-store.ensures.prefix
    (load_meets c.args.number c.in_ok-store.store c.args.type_name.now c.args.cells.now) c.in_ok-store.ensures.opened c.in_err-found.ensures.refused)

pub returns-clause-performed : goal.returns-clause-performed
returns-clause-performed g c =
    answered_as c.args.number (c.loaded_reply.ensures ∙ loaded_is c.in_ok-found.ensures.found.0 c.in_ok-found.found c.in_ok-found.ensures.found.1)
    (performed c.args.number c.in_ok-store.store (Load c.args.type_name.now c.args.cells.now) (λ opened. load_call opened c.args.type_name.now c.args.cells.now) reply_to_load c.in_ok-found.ensures.found.0 c.in_ok-store.ensures.prefix
    (load_meets c.args.number c.in_ok-store.store c.args.type_name.now c.args.cells.now) c.in_ok-store.ensures.opened c.in_ok-found.ensures.found.2)

pub returns-clause-known : goal.returns-clause-known
returns-clause-known g c = λ sees. (
  c.in_ok-store.ensures.prefix,
  load_stays (g.S.Snapshot.map_at c.args.db.now) c.in_ok-store.store _ _ c.args.type_name.now c.args.cells.now c.in_ok-found.ensures.found.0 c.in_ok-found.ensures.found.2 (c.in_ok-store.ensures.there sees),
)
