-- What a reading reads and finds, how a range is cut into batches, and what pairs stand for.
use Rattle.std.specs.Prelude.{ℕ, zero, suc, ◌-◌, Bool, List, [], ◌∷◌, ◌++◌, filter, Option, Some, None}
use Rattle.std.specs.Prelude.{if◌then◌else◌, option_map, reverse, Result, Ok, Err}
use Rattle.std.specs.Result.{result_map_both}
use Rattle.kv_core.specs.Bytes.{key_max}
use Rattle.kv_core.specs.Range.{KeyRange, contains}
use Rattle.txn.specs.declared.cursor.TheConstants.{BATCH}
use Rattle.metadata.specs.declared.definition.TypeDefinition.{TypeDefinition}
use Rattle.metadata.specs.declared.index.IndexDefinition.{IndexDefinition}
use Rattle.metadata.specs.Layout.{Pair}
use Rattle.planner.specs.Layout.{entry_primary_key}
use Rattle.planner.specs.Range as planned
use Rattle.plan_exec.specs.Entry.{Entry}

-- a read: the range that it asks for, which may be refused, and what of it decides the answer, which is kept as read
pub record PlanRead : Type 0 where
  pub asked : KeyRange
  pub added : KeyRange

-- what is read, in reading order, and what is found; or the key of the first damaged pair, and the reads through the
-- one that shows the damage
pub record PlanReading (A : Type 0) : Type 0 where
  pub reads : List PlanRead
  pub found : Result A (List ℕ)

-- what is found without a read
abbrev pub without_reads : {A : Type 0} → Result A (List ℕ) → PlanReading A
without_reads found = record { reads = []; found = found }

-- a reading of which something is made
abbrev pub made_of : {A B : Type 0} → (A → B) → PlanReading A → PlanReading B
made_of f reading = record { reads = reading.reads; found = result_map_both f (λ key. key) reading.found }

-- Private: what is made of a pair, or else its key
abbrev pub or_damaged : {A : Type 0} → List ℕ → Option A → Result A (List ℕ)
or_damaged key None = Err key
or_damaged key (Some a) = Ok a

-- something in front of the first of some lists
abbrev pub onto_first : {A : Type 0} → A → List (List A) → List (List A)
onto_first x [] = (x ∷ []) ∷ []
onto_first x (piece ∷ pieces) = (x ∷ piece) ∷ pieces

-- a list cut where so many elements are left of the first piece after its next one, and of each other piece: the last
-- piece is shorter than one, maybe empty
abbrev pub cut_from : {A : Type 0} → ℕ → ℕ → List A → List (List A)
cut_from more left [] = [] ∷ []
cut_from more zero (x ∷ xs) = (x ∷ []) ∷ cut_from more more xs
cut_from more (suc left) (x ∷ xs) = onto_first x (cut_from more left xs)

-- a list cut into batches: pieces of 64, and a last one that is shorter, maybe empty
abbrev pub batches : {A : Type 0} → List A → List (List A)
batches xs = cut_from (BATCH - 1) (BATCH - 1) xs

-- a reading after one read
abbrev pub read_first : {A : Type 0} → PlanRead → PlanReading A → PlanReading A
read_first read reading = record { reads = read ∷ reading.reads; found = reading.found }

-- the pairs in a range, the last one first in reverse
abbrev pub pairs_within : KeyRange → Bool → List Pair → List Pair
pairs_within range reversed pairs =
    let found = filter (λ pair. contains range pair.0) pairs in
    if reversed then reverse found else found

-- the range that is read for a scan after a key: where its end would come before its begin it is empty
abbrev pub scan_range : List ℕ → planned.PlanRange → KeyRange
scan_range key range = record { begin = key ++ range.begin; end = key_max (key ++ range.begin) (key ++ range.end) }

-- the entry that a pair stands for, if it is of the written form
abbrev pub stored_entry : List ℕ → TypeDefinition → IndexDefinition → Pair → Option Entry
stored_entry prefix t i pair =
    option_map (λ key. record { key = pair.0; primary_key = key }) (entry_primary_key prefix t i pair)
