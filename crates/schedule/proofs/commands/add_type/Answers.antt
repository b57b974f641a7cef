use Rattle.std.proofs.Common.{refl}
use Rattle.record_store.proofs.Answered.{refused_anyway}
use Rattle.record_store.specs.Calls.{type_call}
use Rattle.txn.proofs.Exits.{exit_with}
use Rattle.schedule.specs.declared.step.Command.TheVariants.{«Type»}
use Rattle.schedule.proofs.Outcomes.{performed, refused, refused_unopened}
use Rattle.schedule.specs.Serve.{done}
use Rattle.schedule.proofs.Serving.{type_meets}
use Rattle.schedule.proofs.commands.add_type.Goals as goal

pub returns-in_err-store-clause-refused : goal.returns-in_err-store-clause-refused
returns-in_err-store-clause-refused g c =
    exit_with c.from_residual.result c.in_err-store.field-0.0 _ c.from_residual.ensures
    (refused_unopened c.args.number («Type» c.args.request.now) c.in_err-store.field-0.0 refl refl (λ m. refl) c.in_err-store.ensures.refused)

pub returns-in_err-add_type-clause-refused : goal.returns-in_err-add_type-clause-refused
returns-in_err-add_type-clause-refused g c =
    exit_with c.from_residual-in_err-add_type.result c.in_err-add_type.field-0.0 _ c.from_residual-in_err-add_type.ensures
    (refused c.args.number c.in_ok-store.store («Type» c.args.request.now) (λ opened. type_call opened c.args.request.now) done c.in_err-add_type.field-0.0 refl c.in_ok-store.ensures.prefix
    (type_meets c.args.number c.in_ok-store.store c.args.request.now) c.in_ok-store.ensures.opened (refused_anyway _ _ _ _ _ _ _ (c.in_err-add_type.ensures.refused _)))

pub returns-clause-performed : goal.returns-clause-performed
returns-clause-performed g c =
    performed c.args.number c.in_ok-store.store («Type» c.args.request.now) (λ opened. type_call opened c.args.request.now) done c.add_type.new.self.schema c.in_ok-store.ensures.prefix
    (type_meets c.args.number c.in_ok-store.store c.args.request.now) c.in_ok-store.ensures.opened (c.in_ok-add_type.ensures.added _)
