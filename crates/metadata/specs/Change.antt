-- How a schema grows, and what is refused.
use Rattle.std.specs.Prelude.{ℕ, ◌+◌, Bool, false, not, ◌&&◌, ◌||◌, List, [], ◌∷◌, ◌++◌, Option, Some, None, ◌==◌}
use Rattle.std.specs.Prelude.{map, length, is_some, is_none, nat_lt, nat_le, if◌then◌else◌, Result, Ok, Err}
use Rattle.std.specs.List.{list_any, list_all, filter_map}
use Rattle.std.specs.Str.{bytes_eq}
use Rattle.metadata.specs.declared.definition.Field.{Field}
use Rattle.metadata.specs.declared.definition.TypeDefinition.{TypeDefinition}
use Rattle.metadata.specs.declared.definition.TypeRequest.{TypeRequest}
use Rattle.metadata.specs.declared.refusal.Refusal.{Refusal}
use Rattle.metadata.specs.declared.refusal.Refusal.TheVariants.{BadName, NameTaken, UnknownType, UnknownField}
use Rattle.metadata.specs.declared.refusal.Refusal.TheVariants.{BadSchema, TooMany}
use Rattle.metadata.specs.Schema.{Schema, find_type, place_of}

-- the refusal of the first test that holds
abbrev pub first_test_refusal : List (Bool × Refusal) → Option Refusal
first_test_refusal [] = None
first_test_refusal (test ∷ tests) = if test.0 then Some test.1 else first_test_refusal tests

-- a letter, a digit or an underscore
abbrev pub is_name_byte : ℕ → Bool
is_name_byte byte =
    (nat_le 97 byte && nat_le byte 122) || (nat_le 65 byte && nat_le byte 90) || (nat_le 48 byte && nat_le byte 57)
    || byte == 95

-- 1 to 32 such bytes
abbrev pub is_name : List ℕ → Bool
is_name name = nat_lt 0 (length name) && nat_le (length name) 32 && list_all is_name_byte name

-- two of a list are the same, by a test
abbrev pub has_twice : {X : Type 0} → (X → X → Bool) → List X → Bool
has_twice same [] = false
has_twice same (x ∷ xs) = list_any (same x) xs || has_twice same xs

-- two fields have one name
abbrev pub same_field : Field → Field → Bool
same_field a b = bytes_eq a.name b.name

-- the names of fields
abbrev pub field_names : List Field → List (List ℕ)
field_names fields = map (λ field. field.name) fields

-- a name that no field has
abbrev pub has_unknown : List Field → List (List ℕ) → Bool
has_unknown fields names = list_any (λ name. is_none (place_of fields name)) names

-- the places of the fields of these names
abbrev pub places_of : List Field → List (List ℕ) → List ℕ
places_of fields names = filter_map (place_of fields) names

-- the type that a request asks for, as the next one of the schema
abbrev pub type_asked : Schema → TypeRequest → TypeDefinition
type_asked schema request = record {
  number = length schema.types + 1;
  name = request.name;
  fields = request.fields;
  key = places_of request.fields request.key;
  first_fields = length request.fields;
}

-- why a type isn't added: the first of these
abbrev pub type_refusal : Schema → TypeRequest → Option Refusal
type_refusal schema request = first_test_refusal (
    (not (list_all is_name (request.name ∷ field_names request.fields)), BadName)
    ∷ (is_some (find_type schema request.name) || has_twice same_field request.fields, NameTaken)
    ∷ (has_unknown request.fields request.key, UnknownField)
    ∷ (length request.key == 0 || has_twice bytes_eq request.key, BadSchema)
    ∷ (nat_lt 31 (length schema.types) || nat_lt 32 (length request.fields) || nat_lt 8 (length request.key), TooMany)
    ∷ [])

-- the schema with one more type
abbrev pub with_type : Schema → TypeRequest → Schema
with_type schema request = record schema { types = schema.types ++ type_asked schema request ∷ [] }

-- the schema with a type asked for, or the first refusal
abbrev pub add_type : Schema → TypeRequest → Result Schema Refusal
add_type schema request =
    elim (type_refusal schema request) [ None ↦ Ok (with_type schema request) | Some refusal ↦ Err refusal ]

-- the schema with types asked for, each in turn, or the first refusal
abbrev pub add_types : Schema → List TypeRequest → Result Schema Refusal
add_types schema [] = Ok schema
add_types schema (request ∷ requests) =
    elim (add_type schema request) [ Err refusal ↦ Err refusal | Ok next ↦ add_types next requests ]

-- the type with a field appended
abbrev pub appended : TypeDefinition → Field → TypeDefinition
appended type field = record type { fields = type.fields ++ field ∷ [] }

-- why a field isn't appended to a type: the first of these
abbrev pub append_refusal : TypeDefinition → Field → Option Refusal
append_refusal type field =
    first_test_refusal
    ((is_some (place_of type.fields field.name), NameTaken) ∷ (nat_lt 31 (length type.fields), TooMany) ∷ [])

-- why a field isn't appended to the type of this name: for its own name, for want of the type, for the type's fields
abbrev pub field_refusal : Schema → List ℕ → Field → Option Refusal
field_refusal schema name field =
    if not (is_name field.name) then Some BadName
    else elim (find_type schema name) [ None ↦ Some UnknownType | Some type ↦ append_refusal type field ]

-- the types, with a field appended to the first of this name
abbrev pub appended_at : List ℕ → Field → List TypeDefinition → List TypeDefinition
appended_at name field [] = []
appended_at name field (type ∷ types) =
    if bytes_eq type.name name then appended type field ∷ types else type ∷ appended_at name field types

-- the schema with a field appended to the type of this name
abbrev pub with_field : Schema → List ℕ → Field → Schema
with_field schema name field = record schema { types = appended_at name field schema.types }

-- the schema with a field asked for, or the refusal
abbrev pub add_field : Schema → List ℕ → Field → Result Schema Refusal
add_field schema name field =
    elim (field_refusal schema name field) [ None ↦ Ok (with_field schema name field) | Some refusal ↦ Err refusal ]

-- a schema of types alone
abbrev pub types_alone : List TypeDefinition → Schema
types_alone types = record { types = types; last_index = 0; indexes = [] }

-- no types
abbrev pub empty_schema : Schema
empty_schema = types_alone []

-- the schema that types make from nothing, or the first refusal
abbrev pub schema_of : List TypeRequest → Result Schema Refusal
schema_of requests = add_types empty_schema requests
