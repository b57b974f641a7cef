-- The written form of a schema: a tuple, and the pack of it.
use Rattle.std.specs.Prelude.{◌≡◌, ℕ, pos, Bool, not, ◌||◌, ◌==◌, if◌then◌else◌, Option, Some, None}
use Rattle.std.specs.Prelude.{List, [], ◌∷◌, map, length}
use Rattle.std.specs.List.{list_any}
use Rattle.tuple_codec.specs.Item.{Item, bool, int, text, nested, null, items_from}
use Rattle.tuple_codec.specs.Spelling.{Spells, spelling}
use Rattle.metadata.specs.declared.cells.Kind.{Kind}
use Rattle.metadata.specs.declared.cells.Kind.TheVariants as kind
use Rattle.metadata.specs.declared.definition.Field.{Field}
use Rattle.metadata.specs.declared.definition.TypeDefinition.{TypeDefinition}
use Rattle.metadata.specs.declared.index.IndexDefinition.{IndexDefinition}
use Rattle.metadata.specs.declared.index.IndexKind.{IndexKind}
use Rattle.metadata.specs.declared.index.IndexKind.TheVariants.{Value, Count, Sum}
use Rattle.metadata.specs.declared.refusal.MetadataError.{MetadataError}
use Rattle.metadata.specs.declared.refusal.MetadataError.TheVariants.{Memory, Refused}
use Rattle.metadata.specs.declared.refusal.Refusal.TheVariants.{BadSchema}
use Rattle.metadata.specs.Lawful.{IsLawfulSchema}
use Rattle.metadata.specs.Schema.{Schema}

-- a count, a number or a place
abbrev pub number_item : ℕ → Item
number_item n = int (pos n)

-- a tuple within the tuple
abbrev pub nested_item : List Item → Item
nested_item items = nested (items_from items)

-- kinds are 1 whole number, 2 text, 3 bytes
abbrev pub kind_number : Kind → ℕ
kind_number kind.Int = 1
kind_number kind.Text = 2
kind_number kind.Bytes = 3

-- (name, kind)
abbrev pub field_parts : Field → List Item
field_parts field = text field.name ∷ number_item (kind_number field.kind) ∷ []

abbrev pub field_item : Field → Item
field_item field = nested_item (field_parts field)

-- the second form is wanted by what the first one can't tell: a type with appended fields, an index that is cleared at
-- zero
abbrev pub wants_second : Schema → Bool
wants_second schema =
    list_any (λ type. not (type.first_fields == length type.fields)) schema.types
    || list_any (λ index. index.clear_when_zero) schema.indexes

-- (number, name, fields, places of the key fields), and in the second form the number of the fields that it was added
-- with
abbrev pub type_parts : Bool → TypeDefinition → List Item
type_parts second type =
    number_item type.number ∷ text type.name ∷ nested_item (map field_item type.fields)
    ∷ nested_item (map number_item type.key) ∷ (if second then number_item type.first_fields ∷ [] else [])

abbrev pub type_item : Bool → TypeDefinition → Item
type_item second type = nested_item (type_parts second type)

-- index kinds are 1 VALUE, 2 COUNT, 3 SUM
abbrev pub index_kind_number : IndexKind → ℕ
index_kind_number Value = 1
index_kind_number Count = 2
index_kind_number Sum = 3

-- the place of the summed field, or null
abbrev pub summed_item : Option ℕ → Item
summed_item (Some place) = number_item place
summed_item None = null

-- (number, name, kind, type number, places of the columns, place of the summed field or null), and in the second form
-- whether it is cleared at zero
abbrev pub index_parts : Bool → IndexDefinition → List Item
index_parts second index =
    number_item index.number ∷ text index.name ∷ number_item (index_kind_number index.kind)
    ∷ number_item index.type_number
    ∷ nested_item (map number_item index.columns) ∷ summed_item index.summed
    ∷ (if second then bool index.clear_when_zero ∷ [] else [])

abbrev pub index_item : Bool → IndexDefinition → Item
index_item second index = nested_item (index_parts second index)

-- forms are 1 and 2
abbrev pub form_number : Bool → ℕ
form_number second = if second then 2 else 1

-- (form, last type number, last index number, types, indexes) in the form with this number
abbrev pub written_in : Bool → Schema → List Item
written_in second schema =
    number_item (form_number second) ∷ number_item (length schema.types) ∷ number_item schema.last_index
    ∷ nested_item (map (type_item second) schema.types) ∷ nested_item (map (index_item second) schema.indexes) ∷ []

-- the written form: the second one exactly where it is wanted
abbrev pub written : Schema → List Item
written schema = written_in (wants_second schema) schema

-- the bytes of a schema
abbrev pub schema_bytes : Schema → List ℕ
schema_bytes schema = spelling (written schema)

-- memory was wanting, or the bytes are refused as those of no lawful schema
abbrev pub IsNoSchema : MetadataError → List ℕ → Type 0
IsNoSchema Memory bytes = Unit {0}
IsNoSchema (Refused refusal) bytes =
    (refusal ≡ BadSchema) × ((schema : Schema) → IsLawfulSchema schema → bytes ≡ schema_bytes schema → ⊥)

-- Private: memory was wanting, or the bytes are refused as those of no tuple
abbrev pub IsNoTuple : MetadataError → List ℕ → Type 0
IsNoTuple Memory bytes = Unit {0}
IsNoTuple (Refused refusal) bytes = (refusal ≡ BadSchema) × ((tuple : List Item) → Spells tuple bytes → ⊥)
