-- What a call on an open store establishes, whatever map the snapshot turns out to have.
use Rattle.std.specs.Prelude.{◌≡◌, ◌⊎◌, ℕ, false, not, List, [], ◌∷◌, ◌++◌, Option, Some, None}
use Rattle.std.specs.Prelude.{Result, Ok, Err, length, ◌==◌, is_some, if◌then◌else◌}
use Rattle.std.specs.FinMap.{get}
use Rattle.std.specs.List.{AllByRecursion}
use Rattle.kv_core.specs.Range.{KeyRange}
use Rattle.kv_core.specs.Map.{Map, after_all, pairs_in}
use Rattle.kv_core.specs.Read.{range_read, read_of}
use Rattle.kv_core.specs.Limits.{write_all_refusal}
use Rattle.kv_core.specs.declared.change.CommitRequest.{CommitRequest}
use Rattle.kv_core.specs.declared.change.Mutation.{Mutation}
use Rattle.kv_core.specs.declared.snapshot.ReadError.{ReadError}
use Rattle.txn.specs.Runs.{Ran}
use Rattle.metadata.specs.declared.index.State.{State}
use Rattle.metadata.specs.Schema.{Schema}
use Rattle.record_store.specs.declared.error.StoreError.{StoreError}
use Rattle.record_store.specs.declared.error.StoreError.TheVariants.{Memory, Read, Write, Corrupt}
use Rattle.record_store.specs.Store.{Store, listed_states}
use Rattle.record_store.specs.Holds.{Holds}
use Rattle.record_store.specs.Meaning.{Meaning}
use Rattle.range_set.specs.Stored.{AreWritten, IsFirstDamaged}
use Rattle.record_store.specs.Form.{IsFirstBad, IsWritten, read_in}
use Rattle.record_store.specs.Layout.{built_place, built_range}
use Rattle.record_store.specs.Steps.{DidRead, IsBeginning, IsNextRefused}

-- a store that was opened: the prefix of its keys, and the schema and the states of indexes that were found there
pub record Opened : Type 0 where
  pub prefix : List ℕ
  pub schema : Schema
  pub states : List (ℕ × State)

-- the store was opened so
pub record IsOpenAs (opened : Opened) (store : Store) : Type 0 where
  pub schema : store.schema ≡ opened.schema
  pub states : listed_states store ≡ opened.states

-- what a call reads of a map, in reading order: the ranges that it asks for, those that it adds to the ranges read, the
-- index of which it reads all built ranges first, if it does, and the other pairs
pub record Reading : Type 0 where
  pub asked : Map → List KeyRange
  pub added : Map → List KeyRange
  pub set : Option ℕ
  pub pairs : Map → List (List ℕ × List ℕ)

-- all pairs of some ranges are read
abbrev pub whole : List KeyRange → Reading
whole ranges = record { asked = λ m. ranges; added = λ m. ranges; set = None; pairs = λ m. read_in m ranges }

-- all built ranges of the index with this number are read
abbrev pub all_built : List ℕ → ℕ → Reading
all_built prefix number =
    record {
      asked = λ m. built_range prefix number ∷ [];
      added = λ m. built_range prefix number ∷ [];
      set = Some number;
      pairs = λ m. [];
    }

-- the first pair of a range is read, if there is one
abbrev pub first_of : KeyRange → Reading
first_of range =
    record {
      asked = λ m. range ∷ [];
      added = λ m. range_read range 1 false (read_of m range 1 false) ∷ [];
      set = None;
      pairs = λ m. read_of m range 1 false;
    }

-- one reading, and then another, of pairs alone
abbrev pub then_reads : Reading → Reading → Reading
then_reads one other =
    record {
      asked = λ m. one.asked m ++ other.asked m;
      added = λ m. one.added m ++ other.added m;
      set = one.set;
      pairs = λ m. one.pairs m ++ other.pairs m;
    }

-- a reading of pairs where a pair stands at a key
abbrev pub where_there : List ℕ → Reading → Reading
where_there key reading =
    record {
      asked = λ m. if is_some (get m key) then reading.asked m else [];
      added = λ m. if is_some (get m key) then reading.added m else [];
      set = None;
      pairs = λ m. if is_some (get m key) then reading.pairs m else [];
    }

-- what is read of a map is of the written form: of built ranges that are read whole all together, of the rest each pair
abbrev pub AreSound : Opened → Option ℕ → List (List ℕ × List ℕ) → Map → Type 0
AreSound opened None pairs m = AllByRecursion (IsWritten opened.prefix opened.schema) pairs
AreSound opened (Some number) pairs m =
    AreWritten (built_place opened.prefix number) (pairs_in m (built_range opened.prefix number))
    × AllByRecursion (IsWritten opened.prefix opened.schema) pairs

abbrev pub IsSound : Opened → Reading → Map → Type 0
IsSound opened reading m = AreSound opened reading.set (reading.pairs m) m

-- of the pairs read the first one that isn't of the written form has this key
abbrev pub AreDamaged : Opened → Option ℕ → List (List ℕ × List ℕ) → List ℕ → Map → Type 0
AreDamaged opened None pairs key m = IsFirstBad (IsWritten opened.prefix opened.schema) pairs key
AreDamaged opened (Some number) pairs key m =
    IsFirstDamaged (built_place opened.prefix number) (pairs_in m (built_range opened.prefix number)) key
    ⊎ (AreWritten (built_place opened.prefix number) (pairs_in m (built_range opened.prefix number))
    × IsFirstBad (IsWritten opened.prefix opened.schema) pairs key)

abbrev pub IsDamagedAt : Opened → Reading → List ℕ → Map → Type 0
IsDamagedAt opened reading key m = AreDamaged opened reading.set (reading.pairs m) key m

-- what a call reads, and by the map and the store that is there exactly what it writes, in order
pub record Footprint : Type 0 where
  pub reading : Reading
  pub writes : Map → Store → List Mutation

-- a call that writes nothing
abbrev pub reads_only : Reading → Footprint
reads_only reading = record { reading = reading; writes = λ m store. [] }

-- what a call does that isn't refused before it reads
pub record Service (A : Type 0) : Type 0 where
  pub meaning : Meaning A
  pub footprint : Footprint

-- a call: what it does, or its own refusal, before it reads
abbrev pub Call : Type 0 → Type 0
Call A = Result (Service A) StoreError

-- the call that does this with what is asked for, or has the refusal
abbrev pub service_of : {K A : Type 0} → (K → Meaning A) → (K → Footprint) → K → Service A
service_of meaning footprint value = record { meaning = meaning value; footprint = footprint value }

abbrev pub call_on : {K A : Type 0} → (K → Meaning A) → (K → Footprint) → Result K StoreError → Call A
call_on meaning footprint (Ok value) = Ok (service_of meaning footprint value)
call_on meaning footprint (Err error) = Err error

-- the fact stands of each store that the map holds and that was opened so
abbrev pub AtStore : Opened → Map → (Store → Type 0) → Type 0
AtStore opened m Fact = (store : Store) → Holds opened.prefix m (Some store) → IsOpenAs opened store → Fact store

-- what is so at the store that is there: the answer is the store's, these mutations are exactly what the call writes,
-- no limit refuses them, and they lead to a map that holds the store after it
pub record IsDone {A : Type 0} (opened : Opened) (service : Service A) (answer : A) (before written : List Mutation)
    (m : Map) (store : Store) : Type 0 where
  pub answers : service.meaning.answer store ≡ Ok answer
  pub wrote : written ≡ service.footprint.writes m store
  pub allowed : write_all_refusal before written ≡ None
  pub holds : Holds opened.prefix (after_all written m) (Some (service.meaning.after store))

-- a call was answered: it added to the ranges read those that it reads, in their order, the pairs read are of the
-- written form, and the rest is so at each store that is there
pub record IsAnswered {A : Type 0} (maps : ℕ → Map) (opened : Opened) (call : Call A) (answer : A)
    (old new : CommitRequest) : Type 0 where
  pub service : Service A
  pub accepted : call ≡ Ok service
  pub added : List KeyRange
  pub written : List Mutation
  pub changes : (length written == 0) ≡ not (service.meaning.changes answer)
  pub ran : Ran maps added old new written (λ m. (added ≡ service.footprint.reading.added m)
      × IsSound opened service.footprint.reading m
      × AtStore opened m (IsDone opened service answer old.mutations written m))

-- why reads aren't answered: memory runs out, or a read is refused, in either case after the first ones; or all were
-- answered, and the first pair read that isn't of the written form has this key, which no store has
abbrev pub IsUnread : (KeyRange → ReadError → Type 0) → Opened → Reading → StoreError → List KeyRange → Map → Type 0
IsUnread refuses opened reading Memory added m = IsBeginning added (reading.added m)
IsUnread refuses opened reading (Read error) added m =
    IsBeginning added (reading.added m) × IsNextRefused refuses (reading.asked m) added error
IsUnread refuses opened reading (Corrupt key) added m =
    (added ≡ reading.added m) × IsDamagedAt opened reading key m × AtStore opened m (λ store. ⊥)
IsUnread refuses opened reading error added m = ⊥

-- a store is answered
pub record IsAccepted {A : Type 0} (service : Service A) (store : Store) : Type 0 where
  pub answer : A
  pub is : service.meaning.answer store ≡ Ok answer

-- the store that is there is refused, as some store is: all reads were answered, and all pairs are of the written form
abbrev pub IsRefusedThere : {A : Type 0} → Opened → Service A → StoreError → List KeyRange → Map → Type 0
IsRefusedThere opened service error added m =
    ((store : Store) × (service.meaning.answer store ≡ Err error))
    × (added ≡ service.footprint.reading.added m)
    × IsSound opened service.footprint.reading m
    × AtStore opened m (λ store. service.meaning.answer store ≡ Err error)

-- why a service isn't done: its reads aren't answered; or all were, all pairs are of the written form, and a limit
-- refuses what is to be written, or the store that is there is refused
abbrev pub IsFailure :
    {A : Type 0} → (KeyRange → ReadError → Type 0) → Opened → Service A → StoreError → List Mutation → List KeyRange →
    Map → Type 0
IsFailure refuses opened service Memory before added m =
    IsUnread refuses opened service.footprint.reading Memory added m
IsFailure refuses opened service (Read error) before added m =
    IsUnread refuses opened service.footprint.reading (Read error) added m
IsFailure refuses opened service (Corrupt key) before added m =
    IsUnread refuses opened service.footprint.reading (Corrupt key) added m
IsFailure refuses opened service (Write error) before added m =
    (added ≡ service.footprint.reading.added m) × IsSound opened service.footprint.reading m
    × AtStore opened m (λ store. IsAccepted service store
    × (write_all_refusal before (service.footprint.writes m store) ≡ Some error))
IsFailure refuses opened service error before added m = IsRefusedThere opened service error added m

-- a service wasn't done: it added these ranges to those read, and wrote nothing
pub record IsUndone {A : Type 0} (maps : ℕ → Map) (refuses : KeyRange → ℕ → ReadError → Type 0) (opened : Opened)
    (service : Service A) (error : StoreError) (old new : CommitRequest) : Type 0 where
  pub added : List KeyRange
  pub ran :
      DidRead maps added old new
      (IsFailure (λ range. refuses range old.read_version) opened service error old.mutations added)

-- why a call wasn't answered: its own refusal, before it read anything; or what it does wasn't done. Want of memory can
-- come anywhere
abbrev pub IsRefused :
    {A : Type 0} → (ℕ → Map) → (KeyRange → ℕ → ReadError → Type 0) → Opened → Call A → StoreError → CommitRequest →
    CommitRequest → Type 0
IsRefused maps refuses opened (Err refusal) error old new = ((error ≡ Memory) ⊎ (error ≡ refusal)) × (new ≡ old)
IsRefused maps refuses opened (Ok service) error old new = IsUndone maps refuses opened service error old new
