use Rattle.std.proofs.Common.{refl}
use Rattle.record_store.proofs.Answered.{refused_anyway}
use Rattle.record_store.specs.Calls.{drop_call}
use Rattle.txn.proofs.Exits.{exit_with}
use Rattle.schedule.specs.declared.step.Command.TheVariants.{Drop}
use Rattle.schedule.proofs.Outcomes.{performed, refused, refused_unopened}
use Rattle.schedule.specs.Serve.{done}
use Rattle.schedule.proofs.IndexServing.{drop_meets}
use Rattle.schedule.proofs.index_commands.drop_index.Goals as goal

pub returns-in_err-store-clause-refused : goal.returns-in_err-store-clause-refused
returns-in_err-store-clause-refused g c =
    exit_with c.from_residual.result c.in_err-store.field-0.0 _ c.from_residual.ensures
    (refused_unopened c.args.number (Drop c.args.name.now) c.in_err-store.field-0.0 refl refl (λ m. refl) c.in_err-store.ensures.refused)

pub returns-in_err-drop_index-clause-refused : goal.returns-in_err-drop_index-clause-refused
returns-in_err-drop_index-clause-refused g c =
    exit_with c.from_residual-in_err-drop_index.result c.in_err-drop_index.field-0.0 _ c.from_residual-in_err-drop_index.ensures
    (refused c.args.number c.in_ok-store.store (Drop c.args.name.now) (λ opened. drop_call opened c.args.name.now) done c.in_err-drop_index.field-0.0 refl c.in_ok-store.ensures.prefix
    (drop_meets c.args.number c.in_ok-store.store c.args.name.now) c.in_ok-store.ensures.opened (refused_anyway _ _ _ _ _ _ _ (c.in_err-drop_index.ensures.refused _)))

pub returns-clause-performed : goal.returns-clause-performed
returns-clause-performed g c =
    performed c.args.number c.in_ok-store.store (Drop c.args.name.now) (λ opened. drop_call opened c.args.name.now) done c.drop_index.new.self.schema c.in_ok-store.ensures.prefix
    (drop_meets c.args.number c.in_ok-store.store c.args.name.now) c.in_ok-store.ensures.opened (c.in_ok-drop_index.ensures.dropped _)
