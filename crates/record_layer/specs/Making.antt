-- What makers ask for, from texts.
use Rattle.std.specs.Prelude.{ℕ, Bool, true, false, List, Option, Some, None, map}
use Rattle.std.specs.Borrow.{Bor}
use Rattle.metadata.specs.declared.cells.Kind.{Kind}
use Rattle.metadata.specs.declared.definition.Field.{Field}
use Rattle.metadata.specs.declared.definition.TypeRequest.{TypeRequest}
use Rattle.metadata.specs.declared.index.IndexKind.{IndexKind}
use Rattle.metadata.specs.declared.index.IndexKind.TheVariants as kinds
use Rattle.metadata.specs.declared.index.IndexRequest.{IndexRequest}
use Rattle.record_layer.specs.declared.making.IndexOf.{IndexOf}
use Rattle.record_layer.specs.declared.making.IndexOf.TheVariants as of

-- texts, as names
abbrev pub names_of : List (Bor (List ℕ)) → List (List ℕ)
names_of texts = map (λ text. text.now) texts

-- a name with a kind, as a field
abbrev pub field_with : Bor (List ℕ) × Kind → Field
field_with named = record { name = named.0.now; kind = named.1 }

-- a type by its name, its fields and the names of its key fields
abbrev pub asked_type : List ℕ → List (Bor (List ℕ) × Kind) → List (Bor (List ℕ)) → TypeRequest
asked_type name fields key = record { name = name; fields = map field_with fields; key = names_of key }

-- the kind of an index, by what it keeps
abbrev pub kind_asked : IndexOf → IndexKind
kind_asked of.Value = kinds.Value
kind_asked of.Count = kinds.Count
kind_asked of.ClearedCount = kinds.Count
kind_asked (of.Sum field) = kinds.Sum

-- the field that it adds up, if it does
abbrev pub summed_asked : IndexOf → Option (List ℕ)
summed_asked of.Value = None
summed_asked of.Count = None
summed_asked of.ClearedCount = None
summed_asked (of.Sum field) = Some field.now

-- whether its totals are taken out where they come back to 0
abbrev pub is_cleared : IndexOf → Bool
is_cleared of.ClearedCount = true
is_cleared kind = false

-- an index by what it keeps, its name, its type and its columns
abbrev pub asked_index : IndexOf → List ℕ → List ℕ → List (Bor (List ℕ)) → IndexRequest
asked_index kind name type_name columns =
    record {
      name = name;
      kind = kind_asked kind;
      type_name = type_name;
      columns = names_of columns;
      summed = summed_asked kind;
      clear_when_zero = is_cleared kind;
    }
