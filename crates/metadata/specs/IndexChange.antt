-- How indexes are added to a schema and dropped, and what is refused.
use Rattle.std.specs.Prelude.{ℕ, ◌+◌, Bool, true, false, not, ◌&&◌, ◌||◌, List, [], ◌∷◌, ◌++◌, Option}
use Rattle.std.specs.Prelude.{Some, None, ◌==◌, length, is_some, nat_lt, nat_le, Result, Ok, Err, filter}
use Rattle.std.specs.Option.{option_and_then, option_map_or}
use Rattle.std.specs.Str.{bytes_eq}
use Rattle.metadata.specs.declared.cells.Kind.{Kind}
use Rattle.metadata.specs.declared.cells.Kind.TheVariants as kind
use Rattle.metadata.specs.declared.definition.Field.{Field}
use Rattle.metadata.specs.declared.definition.TypeDefinition.{TypeDefinition}
use Rattle.metadata.specs.declared.index.IndexDefinition.{IndexDefinition}
use Rattle.metadata.specs.declared.index.IndexKind.{IndexKind}
use Rattle.metadata.specs.declared.index.IndexKind.TheVariants.{Value, Count, Sum}
use Rattle.metadata.specs.declared.index.IndexRequest.{IndexRequest}
use Rattle.metadata.specs.declared.refusal.Refusal.{Refusal}
use Rattle.metadata.specs.declared.refusal.Refusal.TheVariants.{BadName, NameTaken, UnknownType, UnknownIndex}
use Rattle.metadata.specs.declared.refusal.Refusal.TheVariants.{UnknownField, WrongKind, BadSchema, TooMany}
use Rattle.metadata.specs.Schema.{Schema, find_index, find_type, kind_at, place_of}
use Rattle.metadata.specs.Change.{first_test_refusal, has_twice, has_unknown, is_name, places_of}

-- a field of whole numbers
abbrev pub is_int : Option Kind → Bool
is_int (Some kind.Int) = true
is_int other = false

-- the shape is of the kind: VALUE has columns, SUM alone has a summed field, and COUNT alone may be cleared at zero
abbrev pub is_shaped : IndexKind → ℕ → Bool → Bool → Bool
is_shaped Value columns summed clears = nat_lt 0 columns && not summed && not clears
is_shaped Count columns summed clears = not summed
is_shaped Sum columns summed clears = summed && not clears

-- the place of the summed field, if one is asked for and there
abbrev pub place_summed : List Field → Option (List ℕ) → Option ℕ
place_summed fields summed = option_and_then (place_of fields) summed

-- a column or the summed field isn't one of the fields
abbrev pub has_unknown_field : List Field → IndexRequest → Bool
has_unknown_field fields request =
    has_unknown fields request.columns
    || option_map_or (λ name. not (is_some (place_of fields name))) request.summed false

-- a summed field isn't of whole numbers
abbrev pub sums_other : List Field → Option ℕ → Bool
sums_other fields summed = option_map_or (λ place. not (is_int (kind_at fields place))) summed false

-- the index that a request asks for over a type, with the next number
abbrev pub index_asked : Schema → TypeDefinition → IndexRequest → IndexDefinition
index_asked schema type request = record {
  number = schema.last_index + 1;
  name = request.name;
  kind = request.kind;
  type_number = type.number;
  columns = places_of type.fields request.columns;
  summed = place_summed type.fields request.summed;
  clear_when_zero = request.clear_when_zero;
}

-- why an index isn't added for its name: the first of these
abbrev pub name_refusal : Schema → IndexRequest → Option Refusal
name_refusal schema request =
    first_test_refusal
    ((not (is_name request.name), BadName) ∷ (is_some (find_index schema request.name), NameTaken) ∷ [])

-- why an index isn't added over a type: the first of these
abbrev pub over_refusal : Schema → TypeDefinition → IndexRequest → Option Refusal
over_refusal schema type request = first_test_refusal (
    (has_unknown_field type.fields request, UnknownField)
    ∷ (sums_other type.fields (place_summed type.fields request.summed), WrongKind)
    ∷ (
      not (is_shaped request.kind (length request.columns) (is_some request.summed) request.clear_when_zero)
          || has_twice bytes_eq request.columns,
      BadSchema,
    )
    ∷ (
      nat_lt 63 (length schema.indexes) || nat_lt 8 (length request.columns)
          || nat_le 65535 schema.last_index,
      TooMany,
    )
    ∷ [])

-- the index that a request asks for, or the first refusal: for its name, for want of its type, over its type
abbrev pub index_over : Schema → IndexRequest → Option TypeDefinition → Result IndexDefinition Refusal
index_over schema request None = Err UnknownType
index_over schema request (Some type) =
    elim (over_refusal schema type request) [ None ↦ Ok (index_asked schema type request) | Some refusal ↦ Err refusal ]

abbrev pub new_index : Schema → IndexRequest → Result IndexDefinition Refusal
new_index schema request =
    elim (name_refusal schema request) [
      | None ↦ index_over schema request (find_type schema request.type_name)
      | Some refusal ↦ Err refusal
    ]

-- the schema with one more index, whose number is the last given
abbrev pub with_index : Schema → IndexDefinition → Schema
with_index schema index = record schema { last_index = index.number; indexes = schema.indexes ++ index ∷ [] }

-- the schema with an index asked for, or the first refusal
abbrev pub add_index : Schema → IndexRequest → Result Schema Refusal
add_index schema request =
    elim (new_index schema request) [ Ok index ↦ Ok (with_index schema index) | Err refusal ↦ Err refusal ]

-- the schema without an index, whose number isn't given again
abbrev pub without_index : Schema → ℕ → Schema
without_index schema number = record schema { indexes = filter (λ index. not (index.number == number)) schema.indexes }

-- the schema without the index of this name, or the refusal
abbrev pub drop_index : Schema → List ℕ → Result Schema Refusal
drop_index schema name =
    elim (find_index schema name) [ Some index ↦ Ok (without_index schema index.number) | None ↦ Err UnknownIndex ]
