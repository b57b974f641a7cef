-- Private: what the readers of a schema's tuple give. They pass over what the schema's own written form tells.
use Rattle.std.specs.Prelude.{ℕ, ◌^◌, pos, List, [], ◌∷◌, Option, Some, None}
use Rattle.std.specs.Prelude.{◌==◌, ◌≡◌, ◌&&◌, Bool, false, nat_lt, slice_get, if◌then◌else◌, unwrap_or}
use Rattle.std.specs.Result.{result_ok}
use Rattle.std.specs.Option.{option_map, option_and_then, option_map_or}
use Rattle.std.specs.List.{list_all}
use Rattle.tuple_codec.specs.Item.{Item, bool, int, text, nested, null, items_list}
use Rattle.metadata.specs.declared.cells.Kind.{Kind}
use Rattle.metadata.specs.declared.cells.Kind.TheVariants as kind
use Rattle.metadata.specs.declared.definition.Field.{Field}
use Rattle.metadata.specs.declared.definition.TypeDefinition.{TypeDefinition}
use Rattle.metadata.specs.declared.definition.TypeRequest.{TypeRequest}
use Rattle.metadata.specs.declared.index.IndexDefinition.{IndexDefinition}
use Rattle.metadata.specs.declared.index.IndexKind.{IndexKind}
use Rattle.metadata.specs.declared.index.IndexKind.TheVariants.{Value, Count, Sum}
use Rattle.metadata.specs.declared.refusal.Refusal.TheVariants.{BadSchema}
use Rattle.metadata.specs.declared.refusal.MetadataError.{MetadataError}
use Rattle.metadata.specs.declared.refusal.MetadataError.TheVariants.{Memory, Refused}
use Rattle.metadata.specs.Change.{schema_of}
use Rattle.metadata.specs.Lawful.{has_good_indexes, is_grown}
use Rattle.metadata.specs.Schema.{Schema}

-- what each of the items is read as, if each is
abbrev pub all_read : {X : Type 0} → (Item → Option X) → List Item → Option (List X)
all_read read [] = Some []
all_read read (one ∷ items) = option_and_then (λ x. option_map (λ xs. x ∷ xs) (all_read read items)) (read one)

-- the text that an item is
abbrev pub text_of : Item → Option (List ℕ)
text_of (text s) = Some s
text_of other = None

-- the nested tuple that an item is
abbrev pub tuple_of : Item → Option (List Item)
tuple_of (nested items) = Some (items_list items)
tuple_of other = None

-- the kind number or place that an item is, which is below 256
abbrev pub small_of : Item → Option ℕ
small_of (int (pos n)) = if nat_lt n 256 then Some n else None
small_of other = None

-- the item at a place, read
abbrev pub read_at : {X : Type 0} → (Item → Option X) → List Item → ℕ → Option X
read_at read items place = option_and_then read (slice_get items place)

-- the kind of a number
abbrev pub kind_of : ℕ → Option Kind
kind_of n =
    if n == 1 then Some kind.Int else if n == 2 then Some kind.Text else if n == 3 then Some kind.Bytes else None

-- the field that a tuple is
abbrev pub field_in : List Item → Option Field
field_in parts =
    option_and_then (λ name. option_map (λ found. record { name = name; kind = found })
    (option_and_then kind_of (read_at small_of parts 1))) (read_at text_of parts 0)

abbrev pub field_of : Item → Option Field
field_of one = option_and_then field_in (tuple_of one)

-- the name of the field at the place that an item is
abbrev pub name_of : List Field → Item → Option (List ℕ)
name_of fields one = option_map (λ field. field.name) (option_and_then (slice_get fields) (small_of one))

-- the request for a type of this name, and of the fields and key that items are
abbrev pub asked_of : List ℕ → List Item → List Item → Option TypeRequest
asked_of name fields places =
    option_and_then (λ fields_read.
    option_map (λ key. record { name = name; fields = fields_read; key = key })
    (all_read (name_of fields_read) places)) (all_read field_of fields)

-- the request for a type that a tuple is
abbrev pub request_in : List Item → Option TypeRequest
request_in parts =
    option_and_then (λ name.
    option_and_then (λ fields. option_and_then (asked_of name fields) (read_at tuple_of parts 3))
    (read_at tuple_of parts 2)) (read_at text_of parts 1)

abbrev pub request_of : Item → Option TypeRequest
request_of one = option_and_then request_in (tuple_of one)

-- the requests for the types of a schema's tuple
abbrev pub requests_in : List Item → Option (List TypeRequest)
requests_in items = option_and_then (all_read request_of) (read_at tuple_of items 3)

-- the first number of a schema's tuple is that of the second form
abbrev pub is_second : List Item → Bool
is_second items = option_map_or (λ form. form == 2) (read_at small_of items 0) false

-- how many fields the type was added with that an item is, by the second form
abbrev pub first_of : Item → Option ℕ
first_of one = option_and_then (λ parts. read_at small_of parts 4) (tuple_of one)

-- the same of the types of a schema's tuple
abbrev pub firsts_in : List Item → Option (List ℕ)
firsts_in items = option_and_then (all_read first_of) (read_at tuple_of items 3)

-- types, added with so many fields each
abbrev pub with_firsts : List ℕ → List TypeDefinition → List TypeDefinition
with_firsts (first ∷ firsts) (type ∷ types) = record type { first_fields = first } ∷ with_firsts firsts types
with_firsts firsts types = types

-- the types, as they have grown by the form that the tuple has
abbrev pub grown_in : List Item → List TypeDefinition → Option (List TypeDefinition)
grown_in items types =
    if is_second items then option_map (λ firsts. with_firsts firsts types) (firsts_in items) else Some types

-- the kind of an index of a number
abbrev pub index_kind_of : ℕ → Option IndexKind
index_kind_of n = if n == 1 then Some Value else if n == 2 then Some Count else if n == 3 then Some Sum else None

-- the number of 64 bits that an item is
abbrev pub item_number : Item → Option ℕ
item_number (int (pos n)) = if nat_lt n (2 ^ 64) then Some n else None
item_number other = None

-- the place of the summed field, or that there is none, which an item is
abbrev pub summed_of : Item → Option (Option ℕ)
summed_of null = Some None
summed_of other = option_map (λ place. Some place) (small_of other)

-- the truth value that an item is
abbrev pub truth_of : Item → Option Bool
truth_of (bool value) = Some value
truth_of other = None

-- the places that the items of a tuple are
abbrev pub places_in : List Item → ℕ → Option (List ℕ)
places_in parts at = option_and_then (all_read small_of) (read_at tuple_of parts at)

-- the index that a tuple is
abbrev pub index_in : List Item → Option IndexDefinition
index_in parts =
    option_and_then (λ number.
    option_and_then (λ name. option_and_then (λ kind. option_and_then (λ type_number. option_and_then (λ columns.
    option_map (λ summed.
    record {
      number = number;
      name = name;
      kind = kind;
      type_number = type_number;
      columns = columns;
      summed = summed;
      clear_when_zero = unwrap_or (read_at truth_of parts 6) false;
    })
    (read_at summed_of parts 5)) (places_in parts 4)) (read_at item_number parts 3))
    (option_and_then index_kind_of (read_at small_of parts 2))) (read_at text_of parts 1))
    (read_at item_number parts 0)

abbrev pub index_of : Item → Option IndexDefinition
index_of one = option_and_then index_in (tuple_of one)

-- the indexes of a schema's tuple
abbrev pub indexes_in : List Item → Option (List IndexDefinition)
indexes_in items = option_and_then (all_read index_of) (read_at tuple_of items 4)

-- the types that a schema's tuple asks for, each as if it had been added with all of its fields
abbrev pub asked_in : List Item → Option (List TypeDefinition)
asked_in items =
    option_and_then (λ requests. option_map (λ schema. schema.types) (result_ok (schema_of requests)))
    (requests_in items)

-- the types of a schema's tuple
abbrev pub types_in : List Item → Option (List TypeDefinition)
types_in items = option_and_then (grown_in items) (asked_in items)

-- the schema, where its types have grown so that there are such, and its indexes are good
abbrev pub if_good : Schema → Option Schema
if_good schema = if list_all is_grown schema.types && has_good_indexes schema then Some schema else None

-- the schema that a tuple tells
abbrev pub tuple_schema : List Item → Option Schema
tuple_schema items =
    option_and_then (λ types. option_and_then (λ last.
    option_and_then (λ indexes. if_good (record { types = types; last_index = last; indexes = indexes }))
    (indexes_in items)) (read_at item_number items 2)) (types_in items)

-- memory was wanting, or the tuple is refused as that of no schema
abbrev pub IsTupleUnread : MetadataError → List Item → Type 0
IsTupleUnread Memory items = Unit {0}
IsTupleUnread (Refused refusal) items = (refusal ≡ BadSchema) × (tuple_schema items ≡ None)
