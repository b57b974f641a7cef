-- A schema, and what is looked up in it.
use Rattle.std.specs.Prelude.{ℕ, List, Option, ◌==◌, find, position, slice_get, map, filter}
use Rattle.std.specs.Option.{option_map}
use Rattle.std.specs.List.{filter_map}
use Rattle.std.specs.Str.{bytes_eq}
use Rattle.metadata.specs.declared.cells.Kind.{Kind}
use Rattle.metadata.specs.declared.definition.Field.{Field}
use Rattle.metadata.specs.declared.definition.TypeDefinition.{TypeDefinition}
use Rattle.metadata.specs.declared.index.IndexDefinition.{IndexDefinition}

-- the types of a store and its indexes, both in the order of their numbers, and the number that was given to an index
-- last
pub record Schema : Type 0 where
  pub types : List TypeDefinition
  pub last_index : ℕ
  pub indexes : List IndexDefinition

-- the type of this name
abbrev pub find_type : Schema → List ℕ → Option TypeDefinition
find_type schema name = find (λ type. bytes_eq type.name name) schema.types

-- the type with this number
abbrev pub type_at : List TypeDefinition → ℕ → Option TypeDefinition
type_at types number = find (λ type. type.number == number) types

-- the index of this name
abbrev pub find_index : Schema → List ℕ → Option IndexDefinition
find_index schema name = find (λ index. bytes_eq index.name name) schema.indexes

-- Private: the indexes of the type with this number
abbrev pub indexes_of : Schema → ℕ → List IndexDefinition
indexes_of schema number = filter (λ index. index.type_number == number) schema.indexes

-- the place of the field of this name
abbrev pub place_of : List Field → List ℕ → Option ℕ
place_of fields name = position (λ field. bytes_eq field.name name) fields

-- the kind of the field at this place
abbrev pub kind_at : List Field → ℕ → Option Kind
kind_at fields place = option_map (λ field. field.kind) (slice_get fields place)

-- the kinds of a type's fields, and of its key fields
abbrev pub field_kinds : TypeDefinition → List Kind
field_kinds type = map (λ field. field.kind) type.fields

abbrev pub key_kinds : TypeDefinition → List Kind
key_kinds type = filter_map (kind_at type.fields) type.key
