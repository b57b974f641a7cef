-- The schema that JSON asks for.
use Rattle.std.specs.Prelude.{ℕ, Bool, false, List, [], ◌∷◌, codes, Option, Some, None, if◌then◌else◌, option_map}
use Rattle.std.specs.Prelude.{option_and_then}
use Rattle.std.specs.Option.{option_map_or}
use Rattle.metadata.specs.declared.cells.Kind.{Kind}
use Rattle.metadata.specs.declared.cells.Kind.TheVariants.{Int, Text, Bytes}
use Rattle.metadata.specs.declared.definition.Field.{Field}
use Rattle.metadata.specs.declared.definition.TypeRequest.{TypeRequest}
use Rattle.metadata.specs.declared.index.IndexKind.{IndexKind}
use Rattle.metadata.specs.declared.index.IndexKind.TheVariants.{Value, Count, Sum}
use Rattle.metadata.specs.declared.index.IndexRequest.{IndexRequest}
use Rattle.metadata.specs.Asked.{SchemaRequest}
use Rattle.serde_json.specs.Data.{Data}
use Rattle.serde_json.specs.Find.{as_bool, as_str, get}
use Rattle.json_forms.specs.Json.{all_in, has_only, list_in, member_in, named}

-- the kind of this name
abbrev pub kind_named : List ℕ → Option Kind
kind_named name = named ((codes "int", Int) ∷ (codes "text", Text) ∷ (codes "bytes", Bytes) ∷ []) name

-- the field that a name and the name of a kind stand for
abbrev pub named_field : List Data → Option Field
named_field (name ∷ kind ∷ []) =
    option_and_then (λ k. option_map (λ text. record { name = text; kind = k }) (as_str name))
    (option_and_then kind_named (as_str kind))
named_field parts = None

-- the field that a list stands for
abbrev pub json_field : Data → Option Field
json_field d = option_and_then named_field (list_in d)

-- the fields that a list stands for
abbrev pub fields_in : Data → Option (List Field)
fields_in d = all_in json_field d

-- the names in a list
abbrev pub names_in : Data → Option (List (List ℕ))
names_in d = all_in as_str d

-- the keys that a type has
abbrev pub type_keys : List (List ℕ)
type_keys = codes "name" ∷ codes "fields" ∷ codes "key" ∷ []

-- the type that an object asks for: its name, its fields and the names of its key fields
abbrev pub type_in : Data → Option TypeRequest
type_in d =
    if has_only type_keys d then
    option_and_then (λ name.
    option_and_then (λ fields. option_map (λ key. record { name = name; fields = fields; key = key })
    (member_in names_in (codes "key") d)) (member_in fields_in (codes "fields") d)) (member_in as_str (codes "name") d)
    else None

-- the kind of index of this name
abbrev pub index_kind_named : List ℕ → Option IndexKind
index_kind_named name = named ((codes "value", Value) ∷ (codes "count", Count) ∷ (codes "sum", Sum) ∷ []) name

-- the kind of index that a text names
abbrev pub index_kind_in : Data → Option IndexKind
index_kind_in d = option_and_then index_kind_named (as_str d)

-- the keys that an index of a kind has: a SUM also has its summed field, a COUNT may have whether it is cleared at zero
abbrev pub index_keys : IndexKind → List (List ℕ)
index_keys Value = codes "name" ∷ codes "kind" ∷ codes "type" ∷ codes "columns" ∷ []
index_keys Count = codes "name" ∷ codes "kind" ∷ codes "type" ∷ codes "columns" ∷ codes "clear_when_zero" ∷ []
index_keys Sum = codes "name" ∷ codes "kind" ∷ codes "type" ∷ codes "columns" ∷ codes "summed" ∷ []

-- the name of the summed field of an index of a kind, which a SUM alone has
abbrev pub summed_in : IndexKind → Data → Option (Option (List ℕ))
summed_in Value d = Some None
summed_in Count d = Some None
summed_in Sum d = option_map (λ name. Some name) (member_in as_str (codes "summed") d)

-- whether the totals of an index of a kind are cleared at zero: a COUNT may say so
abbrev pub clears_in : IndexKind → Data → Option Bool
clears_in Value d = Some false
clears_in Count d = option_map_or as_bool (get (codes "clear_when_zero") d) (Some false)
clears_in Sum d = Some false

-- the index of a kind that an object asks for: its name, the name of its type, those of its columns, that of its summed
-- field, and whether it is cleared at zero
abbrev pub json_index_of_kind : IndexKind → Data → Option IndexRequest
json_index_of_kind kind d =
    if has_only (index_keys kind) d then
    option_and_then (λ name. option_and_then (λ type_name. option_and_then (λ columns.
    option_and_then (λ summed.
    option_map (λ clears.
    record {
      name = name;
      kind = kind;
      type_name = type_name;
      columns = columns;
      summed = summed;
      clear_when_zero = clears;
    })
    (clears_in kind d)) (summed_in kind d)) (member_in names_in (codes "columns") d))
    (member_in as_str (codes "type") d))
    (member_in as_str (codes "name") d)
    else None

-- the index that an object asks for
abbrev pub json_index : Data → Option IndexRequest
json_index d = option_and_then (λ kind. json_index_of_kind kind d) (member_in index_kind_in (codes "kind") d)

-- the types and the indexes in a list
abbrev pub json_types : Data → Option (List TypeRequest)
json_types d = all_in type_in d

abbrev pub json_indexes_listed : Data → Option (List IndexRequest)
json_indexes_listed d = all_in json_index d

-- the indexes of a schema, none where it has no list of them
abbrev pub json_indexes : Data → Option (List IndexRequest)
json_indexes d = option_map_or json_indexes_listed (get (codes "indexes") d) (Some [])

-- the keys that a schema may have
abbrev pub schema_keys : List (List ℕ)
schema_keys = codes "types" ∷ codes "indexes" ∷ []

-- the schema that an object asks for: a list of types, and perhaps one of indexes
abbrev pub json_schema : Data → Option SchemaRequest
json_schema d =
    if has_only schema_keys d then
    option_and_then (λ types. option_map (λ indexes. record { types = types; indexes = indexes }) (json_indexes d))
    (member_in json_types (codes "types") d)
    else None
