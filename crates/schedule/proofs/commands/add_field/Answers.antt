use Rattle.std.proofs.Common.{refl}
use Rattle.record_store.proofs.Answered.{refused_anyway}
use Rattle.record_store.specs.Calls.{field_call}
use Rattle.txn.proofs.Exits.{exit_with}
use Rattle.schedule.specs.declared.step.Command.TheVariants as commands
use Rattle.schedule.proofs.Outcomes.{performed, refused, refused_unopened}
use Rattle.schedule.specs.Serve.{done}
use Rattle.schedule.proofs.Serving.{field_meets}
use Rattle.schedule.proofs.commands.add_field.Goals as goal

pub returns-in_err-store-clause-refused : goal.returns-in_err-store-clause-refused
returns-in_err-store-clause-refused g c =
    exit_with c.from_residual.result c.in_err-store.field-0.0 _ c.from_residual.ensures
    (refused_unopened c.args.number (commands.Field c.args.type_name.now c.args.field.now) c.in_err-store.field-0.0 refl refl (λ m. refl) c.in_err-store.ensures.refused)

pub returns-in_err-add_field-clause-refused : goal.returns-in_err-add_field-clause-refused
returns-in_err-add_field-clause-refused g c =
    exit_with c.from_residual-in_err-add_field.result c.in_err-add_field.field-0.0 _ c.from_residual-in_err-add_field.ensures
    (refused c.args.number c.in_ok-store.store (commands.Field c.args.type_name.now c.args.field.now) (λ opened. field_call opened c.args.type_name.now c.args.field.now) done c.in_err-add_field.field-0.0 refl c.in_ok-store.ensures.prefix
    (field_meets c.args.number c.in_ok-store.store c.args.type_name.now c.args.field.now) c.in_ok-store.ensures.opened (refused_anyway _ _ _ _ _ _ _ (c.in_err-add_field.ensures.refused _)))

pub returns-clause-performed : goal.returns-clause-performed
returns-clause-performed g c =
    performed c.args.number c.in_ok-store.store (commands.Field c.args.type_name.now c.args.field.now) (λ opened. field_call opened c.args.type_name.now c.args.field.now) done c.add_field.new.self.schema c.in_ok-store.ensures.prefix
    (field_meets c.args.number c.in_ok-store.store c.args.type_name.now c.args.field.now) c.in_ok-store.ensures.opened (c.in_ok-add_field.ensures.added _)
