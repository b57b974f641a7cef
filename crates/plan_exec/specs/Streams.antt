-- Private: what a stream has still to give, and what it gives next.
use Rattle.std.specs.Prelude.{◌≡◌, ℕ, List, [], ◌∷◌, ◌++◌, drop, map, option_and_then, slice_get, Option, Some, None}
use Rattle.std.specs.FinMap.{entries}
use Rattle.kv_core.specs.Map.{Map}
use Rattle.kv_core.specs.Range.{KeyRange}
use Rattle.kv_core.specs.declared.change.CommitRequest.{CommitRequest}
use Rattle.kv_core.specs.declared.snapshot.ReadError.{ReadError}
use Rattle.metadata.specs.Layout.{Pair}
use Rattle.metadata.specs.Record.{Record}
use Rattle.record_store.specs.Steps.{DidRead}
use Rattle.planner.specs.Layout.{stored_record}
use Rattle.txn.specs.declared.cursor.RangeCursor.{RangeCursor}
use Rattle.plan_exec.specs.Course.{Course, fails, finds, for_each, found_or, range_course, reads}
use Rattle.plan_exec.specs.Course.{record_course}
use Rattle.plan_exec.specs.Executing.{ranges_added}
use Rattle.plan_exec.specs.Reads.{PlanRead, stored_entry}
use Rattle.plan_exec.specs.Entry.{Entry}
use Rattle.plan_exec.specs.declared.error.ExecError.{ExecError}
use Rattle.plan_exec.specs.declared.error.ExecError.TheVariants.{Corrupt, Memory, Read}
use Rattle.plan_exec.specs.declared.readers.EntriesOf.{EntriesOf}
use Rattle.plan_exec.specs.declared.readers.RecordsOf.{RecordsOf}
use Rattle.plan_exec.specs.declared.streams.PairStream.{PairStream}

-- reads, and then something else
abbrev pub reads_then : {A : Type 0} → List PlanRead → Course A → Course A
reads_then done course = map (λ read. reads read) done ++ course

-- a course went on by these reads to the next thing that it finds, or to its end
abbrev pub GoesOn : {A : Type 0} → Course A → List PlanRead → Option A → Course A → Type 0
GoesOn before done (Some a) after = before ≡ reads_then done (finds a ∷ after)
GoesOn before done None after = (before ≡ reads_then done []) × (after ≡ [])

-- a stream went on so, over every map that agrees with what was read
pub record HasGiven {A : Type 0} (maps : ℕ → Map) (before : List Pair → Course A) (given : Option A)
    (after : List Pair → Course A) (old new : CommitRequest) : Type 0 where
  pub added : List KeyRange
  pub ran :
      DidRead maps added old new
      (λ m. (done : List PlanRead) × (added ≡ ranges_added done)
      × GoesOn (before (entries m)) done given (after (entries m)))

-- a stream went on by reads alone
pub record HasOnlyRead {A : Type 0} (maps : ℕ → Map) (before after : List Pair → Course A) (old new : CommitRequest)
    : Type 0 where
  pub added : List KeyRange
  pub ran :
      DidRead maps added old new
      (λ m. (done : List PlanRead) × (added ≡ ranges_added done)
      × (before (entries m) ≡ reads_then done (after (entries m))))

-- why a course stops where it is: memory runs out, the next read is refused so, or the pair with this key is damaged
abbrev pub StopsHere : {A : Type 0} → (KeyRange → ReadError → Type 0) → Course A → ExecError → Type 0
StopsHere refuses course Memory = Unit {0}
StopsHere refuses course (Read error) =
    (read : PlanRead) × (rest : Course _) × (course ≡ reads read ∷ rest) × refuses read.asked error
StopsHere refuses course (Corrupt key) = (rest : Course _) × (course ≡ fails key ∷ rest)
StopsHere refuses course error = ⊥

-- a stream stopped before it found anything, over every map that agrees with what was read
pub record HasNotGiven {A : Type 0} (maps : ℕ → Map) (refuses : KeyRange → ℕ → ReadError → Type 0)
    (before : List Pair → Course A) (error : ExecError) (old new : CommitRequest) : Type 0 where
  pub added : List KeyRange
  pub ran :
      DidRead maps added old new
      (λ m. (done : List PlanRead) × (rest : Course A) × (added ≡ ranges_added done)
      × (before (entries m) ≡ reads_then done rest)
      × StopsHere (λ range. refuses range old.read_version) rest error)

-- what a cursor has still to give of a map
abbrev pub left_course : RangeCursor → List Pair → Course Pair
left_course cursor pairs = elim cursor.rest [ None ↦ [] | Some range ↦ range_course cursor.reverse range pairs ]

-- what was not yet given of a batch, and then what its cursor has still to give
abbrev pub pair_course : PairStream → List Pair → Course Pair
pair_course stream pairs =
    map (λ pair. finds pair) (drop stream.place stream.batch.items) ++ left_course stream.cursor pairs

-- the pair at a place of a stream's batch, where there is a place
abbrev pub pair_at : PairStream → Option ℕ → Option Pair
pair_at stream place = option_and_then (slice_get stream.batch.items) place

-- the entries that pairs stand for
abbrev pub entries_made : EntriesOf → Course Pair → Course Entry
entries_made entries pairs =
    for_each
    (λ pair. found_or pair.0 (stored_entry entries.store.now.prefix entries.definition.now entries.index.now pair))
    pairs

-- the records that pairs stand for
abbrev pub records_made : RecordsOf → Course Pair → Course Record
records_made records pairs =
    for_each (λ pair. found_or pair.0 (stored_record records.store.now.prefix records.definition.value pair)) pairs

-- the records of entries, where a map has these pairs
abbrev pub records_fetched : RecordsOf → List Pair → Course Entry → Course Record
records_fetched records pairs entries =
    for_each (record_course records.store.now.prefix pairs records.definition.value) entries
