-- What a writer of a record reads of the built positions of write-only indexes.
use Rattle.std.specs.Prelude.{ℕ, Bool, true, false, ◌==◌, ◌&&◌, pos, List, [], ◌∷◌, None, if◌then◌else◌, drop, length}
use Rattle.std.specs.List.{flat_map}
use Rattle.tuple_codec.specs.Item.{Item, int}
use Rattle.kv_core.specs.Map.{Map}
use Rattle.kv_core.specs.Range.{KeyRange}
use Rattle.metadata.specs.declared.index.IndexDefinition.{IndexDefinition}
use Rattle.metadata.specs.declared.index.IndexKind.{IndexKind}
use Rattle.metadata.specs.declared.index.IndexKind.TheVariants.{Value, Count, Sum}
use Rattle.metadata.specs.declared.index.State.{State}
use Rattle.metadata.specs.declared.index.State.TheVariants.{Readable, WriteOnly, Disabled}
use Rattle.range_set.specs.Calls.{last_upto}
use Rattle.record_store.specs.Call.{Opened, Reading}
use Rattle.metadata.specs.Layout.{records_prefix}
use Rattle.record_store.specs.Layout.{built_place}
use Rattle.record_store.specs.Store.{state_in}

-- of a write-only COUNT or SUM, and of no other index, a writer reads whether its position is built
abbrev pub is_asked : State → IndexKind → Bool
is_asked Readable kind = false
is_asked Disabled kind = false
is_asked WriteOnly Value = false
is_asked WriteOnly Count = true
is_asked WriteOnly Sum = true

-- Private: what stands in the key of a record after the number of its type
abbrev pub position_in : List ℕ → ℕ → List ℕ → List ℕ
position_in prefix number key = drop (length (records_prefix prefix number)) key

-- the number of the type in a primary key
abbrev pub type_number_in : List Item → ℕ
type_number_in (int (pos number) ∷ cells) = number
type_number_in key = 0

-- the index is such a one, of the type with this number
abbrev pub asks : Opened → ℕ → IndexDefinition → Bool
asks opened number index = index.type_number == number && is_asked (state_in opened.states index.number) index.kind

-- what is asked for then: of the ranges that begin at the position or before it the last one
abbrev pub asked_ranges : Opened → ℕ → List ℕ → IndexDefinition → List KeyRange
asked_ranges opened number position index =
    if asks opened number index
    then (last_upto (built_place opened.prefix index.number) position).asked ∷ [] else []

abbrev pub added_of : Opened → ℕ → List ℕ → Map → IndexDefinition → List KeyRange
added_of opened number position m index =
    if asks opened number index
    then (last_upto (built_place opened.prefix index.number) position).added m ∷ [] else []

abbrev pub found_of : Opened → ℕ → List ℕ → Map → IndexDefinition → List (List ℕ × List ℕ)
found_of opened number position m index =
    if asks opened number index
    then (last_upto (built_place opened.prefix index.number) position).pairs m else []

-- so it is read of these indexes, in their order
abbrev pub built_reading : Opened → ℕ → List ℕ → List IndexDefinition → Reading
built_reading opened number position indexes =
    record {
      asked = λ m. flat_map (asked_ranges opened number position) indexes;
      added = λ m. flat_map (added_of opened number position m) indexes;
      set = None;
      pairs = λ m. flat_map (found_of opened number position m) indexes;
    }
