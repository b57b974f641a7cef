-- An index that is dropped.
use Rattle.std.proofs.Common.{◌≡◌, ℕ, ◌==◌, not, List, Option, Some, Ok, sym, ap, ◌∙◌}
use Rattle.std.specs.Prelude.{filter}
use Rattle.metadata.specs.declared.definition.TypeDefinition.{TypeDefinition}
use Rattle.metadata.specs.declared.index.IndexDefinition.{IndexDefinition}
use Rattle.metadata.specs.declared.refusal.Refusal.TheVariants.{UnknownIndex}
use Rattle.metadata.specs.IndexChange.{drop_index, without_index}
use Rattle.metadata.specs.Schema.{Schema, find_index}
use Rattle.std.specs.Prelude.{Result, Err, None}
use Rattle.metadata.specs.declared.refusal.Refusal.{Refusal}

pub dropped : (types : List TypeDefinition) (last : ℕ) (indexes kept : List IndexDefinition) (schema : Schema) (name : List ℕ) (index : IndexDefinition) →
    record { types = types; last_index = last; indexes = indexes } ≡ schema → Some index ≡ find_index schema name → kept ≡ filter (λ (i : IndexDefinition). not (i.number == index.number)) indexes →
    drop_index schema name ≡ Ok (record { types = types; last_index = last; indexes = kept })
dropped types last indexes kept schema name index is found kept_is =
    ap by_found (sym found) ∙ ap (λ s. Ok (without_index s index.number)) (sym is) ∙ ap (λ left. Ok (record { types = types; last_index = last; indexes = left })) (sym kept_is)
  where
    by_found : Option IndexDefinition → Result Schema Refusal
    by_found o = elim o [ Some one ↦ Ok (without_index schema one.number) | None ↦ Err UnknownIndex ]
