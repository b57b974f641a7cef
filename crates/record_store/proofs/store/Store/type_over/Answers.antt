use Rattle.std.proofs.Common.{◌∙◌, ap, subst, sym}
use Rattle.std.specs.Option.{option_copied}
use Rattle.metadata.specs.Lawful.{IsLawfulSchema}
use Rattle.metadata.specs.Schema.{Schema, type_at}
use Rattle.record_store.proofs.NamedTypes.{index_typed}
use Rattle.record_store.proofs.store.Store.type_over.Goals as goal

pub unreachable-requires : goal.unreachable-requires
unreachable-requires c =
    index_typed c.args.self.now.schema c.args.index.now (subst IsLawfulSchema c.schema.ensures c.types.ensures.lawful) c.requires
    (ap (λ (s : Schema). type_at s.types c.args.index.now.type_number) (sym c.schema.ensures) ∙ ap (λ types. type_at types c.args.index.now.type_number) (sym c.types.ensures.types) ∙ sym c.type_at.ensures ∙ ap option_copied c.in-None.is)
