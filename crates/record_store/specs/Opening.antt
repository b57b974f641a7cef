-- What opening a store and making one establish.
use Rattle.std.specs.Prelude.{◌≡◌, ℕ, true, List, [], ◌∷◌, Some, None, map}
use Rattle.std.specs.FinMap.{get}
use Rattle.std.specs.List.{AllByRecursion, Contains, list_any}
use Rattle.kv_core.specs.Range.{KeyRange, is_same_range, point}
use Rattle.kv_core.specs.Map.{Agree, Map, after_all, pairs_in}
use Rattle.kv_core.specs.Limits.{write_all_refusal}
use Rattle.kv_core.specs.declared.change.CommitRequest.{CommitRequest}
use Rattle.kv_core.specs.declared.change.Mutation.{Mutation}
use Rattle.kv_core.specs.declared.snapshot.ReadError.{ReadError}
use Rattle.txn.specs.Reads.{seen}
use Rattle.txn.specs.Runs.{Ran}
use Rattle.metadata.specs.Lawful.{IsLawfulSchema}
use Rattle.metadata.specs.Schema.{Schema}
use Rattle.metadata.specs.Written.{schema_bytes}
use Rattle.record_store.specs.declared.error.StoreError.{StoreError}
use Rattle.record_store.specs.declared.opening.OpeningReads.{OpeningReads}
use Rattle.record_store.specs.declared.error.StoreError.TheVariants.{Memory, Read, Write, Corrupt, NoStore}
use Rattle.record_store.specs.declared.error.StoreError.TheVariants.{AlreadyThere}
use Rattle.record_store.specs.Store.{Serial, Store, created}
use Rattle.record_store.specs.Layout.{schema_key, state_pair, states_range}
use Rattle.record_store.specs.Holds.{Holds, IsListed}
use Rattle.record_store.specs.Form.{IsFirstBad, IsOpeningPair, read_in}
use Rattle.record_store.specs.Call.{IsOpenAs, Opened}
use Rattle.record_store.specs.Calls.{schema_writes}
use Rattle.record_store.specs.Steps.{DidRead, IsBeginning, IsNextRefused, of_read}

-- what opening a store reads, in this order: its schema, and the states of its indexes
abbrev pub opening_reach : List ℕ → List KeyRange
opening_reach prefix = point (schema_key prefix) ∷ states_range prefix ∷ []

-- Private: these are the ranges that opening a store under the prefix reads
abbrev pub IsReadUnder : List ℕ → OpeningReads → Type 0
IsReadUnder prefix reads = (reads.schema ≡ point (schema_key prefix)) × (reads.states ≡ states_range prefix)

-- the fact stands of all that the map holds
abbrev pub AtSerials : List ℕ → Map → (Serial → Type 0) → Type 0
AtSerials prefix m Fact = (serial : Serial) → Holds prefix m serial → Fact serial

-- the map has the bytes of this schema, and the pairs of these states, each of an index that isn't readable
pub record HasSchema (opened : Opened) (m : Map) : Type 0 where
  pub made : IsLawfulSchema opened.schema
  pub listed : AllByRecursion (IsListed opened.schema.indexes) opened.states
  pub bytes : get m (schema_key opened.prefix) ≡ Some (schema_bytes opened.schema)
  pub states : pairs_in m (states_range opened.prefix) ≡ map (state_pair opened.prefix) opened.states

-- what is there is a store with the schema and the states that were opened
abbrev pub IsThereAs : Opened → Serial → Type 0
IsThereAs opened None = ⊥
IsThereAs opened (Some store) = IsOpenAs opened store

-- a store was opened: just what opening reads was read, every map that agrees with it has the store's schema and its
-- states, and what it holds is a store with them
pub record IsOpened (maps : ℕ → Map) (opened : Opened) (old new : CommitRequest) : Type 0 where
  pub ran :
      DidRead maps (opening_reach opened.prefix) old new (λ m.
      HasSchema opened m × AtSerials opened.prefix m (IsThereAs opened))

-- a store that was opened in a transaction stands open in it: what an opening reads is among the ranges read, and every
-- map that agrees with these has the store's schema and its states as the transaction sees it, and what it holds then
-- is a store with them
pub record StandsOpen (maps : ℕ → Map) (opened : Opened) (tx : CommitRequest) : Type 0 where
  pub schema_read : list_any (is_same_range (point (schema_key opened.prefix))) tx.reads ≡ true
  pub states_read : list_any (is_same_range (states_range opened.prefix)) tx.reads ≡ true
  pub stands :
      (m : Map) → Agree tx.reads (maps tx.read_version) m →
      HasSchema opened (seen tx m) × AtSerials opened.prefix (seen tx m) (IsThereAs opened)

-- a store that was opened stands there: what an opening reads is among the ranges read, and at the read version the
-- transaction sees a store with the schema and the states that were opened
pub record StandsThere (maps : ℕ → Map) (opened : Opened) (tx : CommitRequest) : Type 0 where
  pub schema_read : list_any (is_same_range (point (schema_key opened.prefix))) tx.reads ≡ true
  pub states_read : list_any (is_same_range (states_range opened.prefix)) tx.reads ≡ true
  pub store : Store
  pub holds : Holds opened.prefix (seen tx (maps tx.read_version)) (Some store)
  pub same : IsOpenAs opened store

-- a read of none of these ranges must be refused
abbrev pub AreAllowed : (KeyRange → ℕ → Type 0) → List KeyRange → ℕ → Type 0
AreAllowed must_refuse [] version = Unit {0}
AreAllowed must_refuse (range ∷ ranges) version =
    (must_refuse range version → ⊥) × AreAllowed must_refuse ranges version

-- the error is with what a read of one of these ranges is refused
pub record IsRefusalOfRead (refuses : KeyRange → ReadError → Type 0) (ranges : List KeyRange) (error : StoreError) :
    Type 0 where
  pub range : KeyRange
  pub among : Contains ranges range
  pub why : ReadError
  pub is : error ≡ of_read why
  pub refused : refuses range why

-- why no store is opened: memory runs out, or a read is refused, in either case after the first ones; or all was
-- read, and no schema stands there, or a pair does and the first pair read that isn't of the written form has this key,
-- which no store has, nor is there none
abbrev pub IsOpenFailure : (KeyRange → ReadError → Type 0) → List ℕ → StoreError → List KeyRange → Map → Type 0
IsOpenFailure refuses prefix Memory added m = IsBeginning added (opening_reach prefix)
IsOpenFailure refuses prefix (Read error) added m =
    IsBeginning added (opening_reach prefix) × IsNextRefused refuses (opening_reach prefix) added error
IsOpenFailure refuses prefix NoStore added m =
    (added ≡ opening_reach prefix) × (get m (schema_key prefix) ≡ None)
    × AtSerials prefix m (λ serial. serial ≡ None)
IsOpenFailure refuses prefix (Corrupt key) added m =
    (added ≡ opening_reach prefix) × (get m (schema_key prefix) ≡ None → ⊥)
    × IsFirstBad (IsOpeningPair prefix m) (read_in m (opening_reach prefix)) key
    × AtSerials prefix m (λ serial. ⊥)
IsOpenFailure refuses prefix error added m = ⊥

-- a store wasn't opened: these ranges were added to those read, and nothing was written
pub record IsUnopened (maps : ℕ → Map) (refuses : KeyRange → ℕ → ReadError → Type 0) (prefix : List ℕ)
    (error : StoreError) (old new : CommitRequest) : Type 0 where
  pub added : List KeyRange
  pub ran : DidRead maps added old new (IsOpenFailure (λ range. refuses range old.read_version) prefix error added)

-- a store was made: just what opening reads was read, no schema stood there and nothing was there, its schema is all
-- that was written, within the limits, and a map that holds a new store of it is what comes of that
pub record IsCreated (maps : ℕ → Map) (opened : Opened) (old new : CommitRequest) : Type 0 where
  pub allowed : write_all_refusal old.mutations (schema_writes opened.prefix opened.schema) ≡ None
  pub ran : Ran maps (opening_reach opened.prefix) old new (schema_writes opened.prefix opened.schema)
      (λ m. (get m (schema_key opened.prefix) ≡ None)
      × AtSerials opened.prefix m (λ serial. (serial ≡ None)
      × Holds opened.prefix (after_all (schema_writes opened.prefix opened.schema) m)
      (Some (created opened.schema))))

-- what is answered where a store is made
pub record IsNewStore (maps : ℕ → Map) (prefix : List ℕ) (schema : Schema) (old new : CommitRequest) (store : Opened) :
    Type 0 where
  -- it was made in the transaction
  pub created : IsCreated maps store old new
  -- under this prefix
  pub prefix_is : store.prefix ≡ prefix
  -- of this schema
  pub schema_is : store.schema ≡ schema
  -- all of whose indexes are readable
  pub readable : store.states ≡ []

-- why no store is made: memory runs out, or a read is refused, in either case after the first ones; or all was read
-- that an opening reads, and a pair stands where a schema does, or a limit refuses the schema
abbrev pub IsCreateFailure :
    (KeyRange → ReadError → Type 0) → Opened → StoreError → List Mutation → List KeyRange → Map → Type 0
IsCreateFailure refuses opened Memory before added m = IsBeginning added (opening_reach opened.prefix)
IsCreateFailure refuses opened (Read error) before added m =
    IsBeginning added (opening_reach opened.prefix) × IsNextRefused refuses (opening_reach opened.prefix) added error
IsCreateFailure refuses opened AlreadyThere before added m =
    (added ≡ opening_reach opened.prefix) × (get m (schema_key opened.prefix) ≡ None → ⊥)
    × AtSerials opened.prefix m (λ serial. serial ≡ None → ⊥)
IsCreateFailure refuses opened (Write error) before added m =
    (added ≡ opening_reach opened.prefix) × (get m (schema_key opened.prefix) ≡ None)
    × (write_all_refusal before (schema_writes opened.prefix opened.schema) ≡ Some error)
    × AtSerials opened.prefix m (λ serial. serial ≡ None)
IsCreateFailure refuses opened error before added m = ⊥

-- a store wasn't made: these ranges were added to those read, and nothing was written
pub record IsUncreated (maps : ℕ → Map) (refuses : KeyRange → ℕ → ReadError → Type 0) (opened : Opened)
    (error : StoreError) (old new : CommitRequest) : Type 0 where
  pub added : List KeyRange
  pub ran :
      DidRead maps added old new
      (IsCreateFailure (λ range. refuses range old.read_version) opened error old.mutations added)
