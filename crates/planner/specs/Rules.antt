-- Which indexes a plan may use.
use Rattle.std.specs.Prelude.{◌≡◌, ℕ, Contains, IsTrue, false, ◌&&◌, ◌==◌, List, filter}
use Rattle.std.specs.Option.{option_map_or}
use Rattle.metadata.specs.declared.index.IndexDefinition.{IndexDefinition}
use Rattle.metadata.specs.Index.{is_readable, is_value, listed_state}
use Rattle.metadata.specs.Schema.{Schema}
use Rattle.metadata.specs.declared.index.State.{State}
use Rattle.metadata.specs.declared.definition.TypeDefinition.{TypeDefinition}

-- the readable VALUE indexes of the type, in the order of their numbers
abbrev pub usable : Schema → List (ℕ × State) → TypeDefinition → List IndexDefinition
usable schema states t =
    filter (λ i. is_value i.kind && i.type_number == t.number
    && option_map_or is_readable (listed_state states i.number) false) schema.indexes

-- the schema's definition, which is readable and by value
pub record MayBeUsed (schema : Schema) (states : List (ℕ × State)) (t : TypeDefinition)
    (i : IndexDefinition) : Type 0 where
  pub in_schema : Contains schema.indexes i
  pub of_values : IsTrue (is_value i.kind)
  pub of_type : i.type_number ≡ t.number
  pub readable : IsTrue (option_map_or is_readable (listed_state states i.number) false)
