use Rattle.std.proofs.Common.{◌∙◌, ap, subst, sym}
use Rattle.metadata.specs.Change.{add_field}
use Rattle.metadata.specs.Lawful.{IsLawfulSchema}
use Rattle.metadata.proofs.FieldAdded.{field_lawful}
use Rattle.record_store.proofs.store.Store.with_field.Goals as goal

pub returns-clause-lawful : goal.returns-clause-lawful
returns-clause-lawful c =
    field_lawful c.args.self.now.schema c.add_field.new.self c.args.type_name.now c.args.field.now (subst IsLawfulSchema c.schema-old.ensures c.lawful_known.ensures)
    (ap (λ s. add_field s c.args.type_name.now c.args.field.now) (sym (c.in_ok-next.ensures ∙ c.schema-old.ensures)) ∙ ap (add_field c.in_ok-next.next c.args.type_name.now) (sym c.in_ok-copy.ensures) ∙ c.in_ok-add_field.ensures.ok)
