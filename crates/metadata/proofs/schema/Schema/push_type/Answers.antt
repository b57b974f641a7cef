use Rattle.std.proofs.Common.{◌+◌, ◌∙◌, ap, length}
use Rattle.metadata.specs.Change.{places_of}
use Rattle.metadata.proofs.StillLawful.{still_typed}
use Rattle.metadata.proofs.schema.Schema.push_type.Goals as goal

pub invariant_of-self-2 : goal.invariant_of-self-2
invariant_of-self-2 c =
    still_typed c.self.inside.types.items c.self.inside.last_index c.self.inside.indexes.items c.args.self.now c.self.view_is c.self.invariant c.args.name c.args.fields c.args.key.now c.in_ok-key.key _ _ c.push.new.self.items
    c.requires (c.in_ok-key.ensures ∙ ap (λ fields. places_of fields c.args.key.now) c.as_slice.ensures) (ap (λ n. n + 1) (c.len.ensures ∙ c.self.inside.types.ok.0)) (ap length c.as_slice-first_fields.ensures) c.in_ok-push.ensures.items
