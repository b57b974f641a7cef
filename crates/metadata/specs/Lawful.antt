-- Which schemas there are: those whose types are added one after another, perhaps with fields appended later, with
-- indexes that could have been asked for over them.
use Rattle.std.specs.Prelude.{◌≡◌, ℕ, Bool, true, false, not, ◌&&◌, List, [], ◌∷◌}
use Rattle.std.specs.Prelude.{nat_eq, Ok, length, map, is_some, nat_lt, nat_le}
use Rattle.std.specs.List.{list_all}
use Rattle.std.specs.Option.{option_map_or}
use Rattle.std.specs.Str.{bytes_eq}
use Rattle.metadata.specs.declared.definition.TypeDefinition.{TypeDefinition}
use Rattle.metadata.specs.declared.definition.TypeRequest.{TypeRequest}
use Rattle.metadata.specs.declared.index.IndexDefinition.{IndexDefinition}
use Rattle.metadata.specs.Schema.{Schema, kind_at, type_at}
use Rattle.metadata.specs.Change.{has_twice, is_name, schema_of, types_alone}
use Rattle.metadata.specs.IndexChange.{is_int, is_shaped}

-- numbers rise strictly from above one, and end at most at another
abbrev pub is_rising_upto : ℕ → ℕ → List ℕ → Bool
is_rising_upto low high [] = nat_le low high
is_rising_upto low high (n ∷ numbers) = nat_lt low n && is_rising_upto n high numbers

-- two indexes have one name
abbrev pub same_index : IndexDefinition → IndexDefinition → Bool
same_index a b = bytes_eq a.name b.name

-- the definition is that of an index over the type
abbrev pub is_index_over : IndexDefinition → TypeDefinition → Bool
is_index_over index type =
    list_all (λ place. nat_lt place (length type.fields)) index.columns && not (has_twice nat_eq index.columns)
    && option_map_or (λ place. is_int (kind_at type.fields place)) index.summed true

-- the definition is that of an index over one of the types
abbrev pub is_index : List TypeDefinition → IndexDefinition → Bool
is_index types index =
    is_name index.name && nat_le (length index.columns) 8
    && is_shaped index.kind (length index.columns) (is_some index.summed) index.clear_when_zero
    && option_map_or (is_index_over index) (type_at types index.type_number) false

-- the indexes of a schema: their numbers rise up to the last one given, their names differ, and each is an index over
-- one of the types
abbrev pub has_good_indexes : Schema → Bool
has_good_indexes schema =
    nat_le schema.last_index 65_535 && is_rising_upto 0 schema.last_index (map (λ index. index.number) schema.indexes)
    && nat_le (length schema.indexes) 64 && not (has_twice same_index schema.indexes)
    && list_all (is_index schema.types) schema.indexes

-- the type as if it had been added with all of its fields
abbrev pub at_once : TypeDefinition → TypeDefinition
at_once type = record type { first_fields = length type.fields }

-- the fields that the type was added with are its first ones, and those of its key are among them
abbrev pub is_grown : TypeDefinition → Bool
is_grown type =
    nat_le type.first_fields (length type.fields) && list_all (λ place. nat_lt place type.first_fields) type.key

-- a lawful schema: requests make its types with all of their fields, the fields that came later stand last and are none
-- of a key, and its indexes are good
pub record IsLawfulSchema (schema : Schema) : Type 0 where
  pub requests : List TypeRequest
  pub types : schema_of requests ≡ Ok (types_alone (map at_once schema.types))
  pub grown : list_all is_grown schema.types ≡ true
  pub indexes : has_good_indexes schema ≡ true
