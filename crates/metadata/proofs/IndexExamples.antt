-- Worked examples of indexes in schemas, computed.
use Rattle.std.proofs.Common.{◌≡◌, ℕ, true, false, List, [], ◌∷◌, Option, None, Some, Ok, Err, refl}
use Rattle.metadata.specs.declared.cells.Kind.TheVariants as kind
use Rattle.metadata.specs.declared.definition.TypeDefinition.{TypeDefinition}
use Rattle.metadata.specs.declared.index.IndexDefinition.{IndexDefinition}
use Rattle.metadata.specs.declared.index.IndexKind.{IndexKind}
use Rattle.metadata.specs.declared.index.IndexKind.TheVariants.{Value, Count, Sum}
use Rattle.metadata.specs.declared.index.IndexRequest.{IndexRequest}
use Rattle.metadata.specs.declared.refusal.Refusal.TheVariants.{BadName, NameTaken, UnknownType, UnknownIndex, UnknownField, WrongKind, BadSchema}
use Rattle.metadata.specs.Schema.{Schema}
use Rattle.metadata.specs.IndexChange.{add_index, drop_index}
use Rattle.metadata.specs.Lawful.{has_good_indexes}
use Rattle.metadata.specs.Written.{index_item, nested_item, number_item, written}
use Rattle.metadata.specs.Reading.{tuple_schema}
use Rattle.tuple_codec.specs.Item as item

-- "t", "k", "a", "s", "v", "w", "z"
abbrev t : List ℕ
t = 116 ∷ []

abbrev k : List ℕ
k = 107 ∷ []

abbrev a : List ℕ
a = 97 ∷ []

abbrev s : List ℕ
s = 115 ∷ []

abbrev v : List ℕ
v = 118 ∷ []

abbrev w : List ℕ
w = 119 ∷ []

abbrev z : List ℕ
z = 122 ∷ []

-- a type of whole numbers k and a and a text s, whose key is k
abbrev t_type : TypeDefinition
t_type = record {
  number = 1;
  name = t;
  fields = record { name = k; kind = kind.Int } ∷ record { name = a; kind = kind.Int } ∷ record { name = s; kind = kind.Text } ∷ [];
  key = 0 ∷ [];
  first_fields = 3;
}

abbrev asked : List ℕ → IndexKind → List ℕ → List (List ℕ) → Option (List ℕ) → IndexRequest
asked name of type columns summed = record { name = name; kind = of; type_name = type; columns = columns; summed = summed; clear_when_zero = false }

-- a VALUE index v on a, a dropped one between, and a SUM w of a without columns
abbrev v_index : IndexDefinition
v_index = record { number = 1; name = v; kind = Value; type_number = 1; columns = 1 ∷ []; summed = None; clear_when_zero = false }

abbrev w_index : IndexDefinition
w_index = record { number = 3; name = w; kind = Sum; type_number = 1; columns = []; summed = Some 1; clear_when_zero = false }

abbrev one : Schema
one = record { types = t_type ∷ []; last_index = 1; indexes = v_index ∷ [] }

abbrev after_drop : Schema
after_drop = record { types = t_type ∷ []; last_index = 2; indexes = v_index ∷ [] }

abbrev both : Schema
both = record { types = t_type ∷ []; last_index = 3; indexes = v_index ∷ w_index ∷ [] }

first : add_index (record { types = t_type ∷ []; last_index = 0; indexes = [] }) (asked v Value t (a ∷ []) None) ≡ Ok one
first = refl

-- a dropped index leaves the last number, so that it isn't given again
dropped : drop_index (record { types = t_type ∷ []; last_index = 2; indexes = v_index ∷ (record { number = 2; name = z; kind = Count; type_number = 1; columns = []; summed = None; clear_when_zero = false }) ∷ [] }) z ≡ Ok after_drop
dropped = refl

third : add_index after_drop (asked w Sum t [] (Some a)) ≡ Ok both
third = refl

unknown : drop_index both z ≡ Err UnknownIndex
unknown = refl

-- what is refused as an index, in the order of the tests
no_name : add_index both (asked [] Value z (z ∷ []) None) ≡ Err BadName
no_name = refl

taken : add_index both (asked v Value z (z ∷ []) None) ≡ Err NameTaken
taken = refl

no_type : add_index both (asked z Value z (z ∷ []) None) ≡ Err UnknownType
no_type = refl

no_column : add_index both (asked z Sum t (z ∷ []) (Some s)) ≡ Err UnknownField
no_column = refl

sum_of_text : add_index both (asked z Sum t (a ∷ a ∷ []) (Some s)) ≡ Err WrongKind
sum_of_text = refl

column_twice : add_index both (asked z Count t (a ∷ a ∷ []) None) ≡ Err BadSchema
column_twice = refl

value_of_nothing : add_index both (asked z Value t [] None) ≡ Err BadSchema
value_of_nothing = refl

sum_of_nothing : add_index both (asked z Sum t (a ∷ []) None) ≡ Err BadSchema
sum_of_nothing = refl

-- numbers rise, and names differ
good : has_good_indexes both ≡ true
good = refl

falling : has_good_indexes (record { types = t_type ∷ []; last_index = 3; indexes = w_index ∷ v_index ∷ [] }) ≡ false
falling = refl

above_last : has_good_indexes (record { types = t_type ∷ []; last_index = 2; indexes = v_index ∷ w_index ∷ [] }) ≡ false
above_last = refl

-- a SUM is written with the place of its field, and read again
w_written : index_item false w_index ≡ nested_item (number_item 3 ∷ item.text w ∷ number_item 3 ∷ number_item 1 ∷ nested_item [] ∷ number_item 1 ∷ [])
w_written = refl

read_again : tuple_schema (written both) ≡ Some both
read_again = refl

-- a COUNT alone may be cleared at zero, and is written in the second form then
abbrev clearing : List ℕ → IndexKind → List (List ℕ) → Option (List ℕ) → IndexRequest
clearing name of columns summed = record { name = name; kind = of; type_name = t; columns = columns; summed = summed; clear_when_zero = true }

abbrev z_index : IndexDefinition
z_index = record { number = 4; name = z; kind = Count; type_number = 1; columns = []; summed = None; clear_when_zero = true }

count_cleared : add_index both (clearing z Count [] None) ≡ Ok (record { types = t_type ∷ []; last_index = 4; indexes = v_index ∷ w_index ∷ z_index ∷ [] })
count_cleared = refl

value_cleared : add_index both (clearing z Value (a ∷ []) None) ≡ Err BadSchema
value_cleared = refl

sum_cleared : add_index both (clearing z Sum [] (Some a)) ≡ Err BadSchema
sum_cleared = refl

z_written : index_item true z_index ≡ nested_item (number_item 4 ∷ item.text z ∷ number_item 2 ∷ number_item 1 ∷ nested_item [] ∷ item.null ∷ item.bool true ∷ [])
z_written = refl

cleared_again : tuple_schema (written (record { types = t_type ∷ []; last_index = 4; indexes = z_index ∷ [] })) ≡ Some (record { types = t_type ∷ []; last_index = 4; indexes = z_index ∷ [] })
cleared_again = refl
