use Rattle.std.proofs.Common.{ap, refl, rules}
use Rattle.std.proofs.lemmas.Int.{to_z-of_z}
use Rattle.std.specs.Int.{w64}
use mir.Val.{SFits}
use Rattle.record_store.specs.Calls.{aggregate_call}
use Rattle.txn.proofs.Exits.{exit_with}
use Rattle.schedule.specs.declared.reply.Reply.TheVariants.{Total}
use Rattle.schedule.specs.declared.step.Command.TheVariants.{Aggregate}
use Rattle.schedule.proofs.Outcomes.{answered_as, performed, refused, refused_unopened}
use Rattle.schedule.proofs.IndexServing.{aggregate_meets}
use Rattle.schedule.proofs.KnownStores.{aggregate_stays}
use Rattle.schedule.proofs.index_commands.aggregate.Goals as goal

pub returns-in_err-store-clause-refused : goal.returns-in_err-store-clause-refused
returns-in_err-store-clause-refused g c =
    exit_with c.from_residual.result c.in_err-store.field-0.0 _ c.from_residual.ensures
    (refused_unopened c.args.number (Aggregate c.args.name.now c.args.group.now) c.in_err-store.field-0.0 refl refl (λ m. refl) c.in_err-store.ensures.refused)

pub returns-in_err-total-clause-refused : goal.returns-in_err-total-clause-refused
returns-in_err-total-clause-refused g c =
    exit_with c.from_residual-in_err-total.result c.in_err-total.field-0.0 _ c.from_residual-in_err-total.ensures
    (refused c.args.number c.in_ok-store.store (Aggregate c.args.name.now c.args.group.now) (λ opened. aggregate_call opened c.args.name.now c.args.group.now) Total c.in_err-total.field-0.0 refl c.in_ok-store.ensures.prefix
    (aggregate_meets c.args.number c.in_ok-store.store c.args.name.now c.args.group.now) c.in_ok-store.ensures.opened c.in_err-total.ensures.refused)

pub returns-clause-performed : goal.returns-clause-performed
returns-clause-performed g c =
    answered_as c.args.number (ap (λ total. Total total) (to_z-of_z w64 c.in_ok-total.total fits))
    (performed c.args.number c.in_ok-store.store (Aggregate c.args.name.now c.args.group.now) (λ opened. aggregate_call opened c.args.name.now c.args.group.now) Total c.in_ok-total.total c.in_ok-store.ensures.prefix
    (aggregate_meets c.args.number c.in_ok-store.store c.args.name.now c.args.group.now) c.in_ok-store.ensures.opened c.in_ok-total.ensures.found)
  where
    fits : SFits w64 c.in_ok-total.total
    fits = search rules

pub returns-clause-known : goal.returns-clause-known
returns-clause-known g c = λ sees. (
  c.in_ok-store.ensures.prefix,
  aggregate_stays (g.S.Snapshot.map_at c.args.db.now) c.in_ok-store.store _ _ c.args.name.now c.args.group.now c.in_ok-total.total c.in_ok-total.ensures.found (c.in_ok-store.ensures.there sees),
)
