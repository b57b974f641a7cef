use Rattle.std.proofs.Common.{refl}
use Rattle.metadata.specs.Change.{appended_at}
use Rattle.metadata.specs.Lawful.{IsLawfulSchema}
use Rattle.metadata.proofs.StillLawful.{either_kept, still_appended}
use Rattle.metadata.proofs.schema.Schema.push_field.Goals as goal

pub invariant_of-self : goal.invariant_of-self
invariant_of-self c =
    let types = c.self.inside.types.items in
    either_kept (λ ts. IsLawfulSchema (record { types = ts; last_index = c.self.inside.last_index; indexes = c.self.inside.indexes.items })) c.append_field.result c.append_field.new.types.items
    (appended_at c.args.type_name.now c.args.field types) types c.append_field.ensures.ok c.append_field.ensures.err
    (still_appended types c.self.inside.last_index c.self.inside.indexes.items c.args.self.now c.self.view_is c.self.invariant c.args.type_name.now c.args.field (appended_at c.args.type_name.now c.args.field types) c.requires refl)
    c.self.invariant
