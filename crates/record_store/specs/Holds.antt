-- How a map holds what is there: no store, or a store, place by place.
use Rattle.std.specs.Prelude.{◌≡◌, ◌==◌, ℕ, Bool, List, ◌++◌, Some, None, Ok, IsTrue, map}
use Rattle.std.specs.List.{AllByRecursion, list_any}
use Rattle.std.specs.FinMap.{from_entries, get}
use Rattle.tuple_codec.specs.Subspace.{BeginsWith}
use Rattle.kv_core.specs.Map.{Map}
use Rattle.range_set.specs.Stored.{HasSet}
use Rattle.metadata.specs.declared.index.IndexDefinition.{IndexDefinition}
use Rattle.metadata.specs.declared.index.State.{State}
use Rattle.metadata.specs.declared.index.State.TheVariants.{Readable}
use Rattle.metadata.specs.Lawful.{IsLawfulSchema}
use Rattle.metadata.specs.declared.cells.Cell.{Cell}
use Rattle.metadata.specs.Record.{Record, primary_key, record_of}
use Rattle.metadata.specs.Records.{AreOrdered, IsStorable}
use Rattle.metadata.specs.Schema.{Schema}
use Rattle.metadata.specs.Stored.{filled}
use Rattle.metadata.specs.Written.{schema_bytes}
use Rattle.index_maint.specs.Kept.{HasKept}
use Rattle.index_maint.specs.Layout.{entries_prefix}
use Rattle.record_store.specs.Store.{Store, Serial, Status, WriteOnly, built_of, listed_states, state_of}
use Rattle.metadata.specs.Layout.{place_of_records, place_of_states}
use Rattle.record_store.specs.Layout.{built_place, place, record_key, record_value, schema_key, state_pair}

-- a record of the schema: the schema's type of its name makes it of its cells
abbrev pub IsOfSchema : Schema → Record → Type 0
IsOfSchema schema r = record_of schema r.definition.name r.cells ≡ Ok r

-- an index has this number
abbrev pub has_number : List IndexDefinition → ℕ → Bool
has_number indexes number = list_any (λ index. index.number == number) indexes

-- a state that is listed: of an index that is there, and that isn't readable
pub record IsListed (indexes : List IndexDefinition) (listed : ℕ × State) : Type 0 where
  pub there : IsTrue (has_number indexes listed.0)
  pub state : listed.1 ≡ Readable → ⊥

-- a lawful store: its schema is one that calls make, its records are of the schema, in order, and can be stored
pub record IsLawful (store : Store) : Type 0 where
  pub schema : IsLawfulSchema store.schema
  pub typed : AllByRecursion (IsOfSchema store.schema) store.records
  pub ordered : AreOrdered store.records
  pub storable : AllByRecursion IsStorable store.records

-- the map of pairs
abbrev pub pairs_map : List (List ℕ × List ℕ) → Map
pairs_map pairs = from_entries pairs

-- at the keys that begin so the map has just these pairs
abbrev pub HasPairs : List ℕ → List (List ℕ × List ℕ) → Map → Type 0
HasPairs begin pairs m = (bytes : List ℕ) → get m (begin ++ bytes) ≡ get (pairs_map pairs) (begin ++ bytes)

-- a map has a record: at its key the pack of its first cells, all of those that its type was added with; the others are
-- null
pub record HasRecord (prefix : List ℕ) (m : Map) (r : Record) : Type 0 where
  pub stored : List Cell
  pub has : get m (record_key prefix (primary_key r)) ≡ Some (record_value stored)
  pub fills : filled r.definition stored ≡ Some r.cells

-- the key is that of none of these records
abbrev pub IsNoRecord : List ℕ → List Record → List ℕ → Type 0
IsNoRecord prefix records key = AllByRecursion (λ r. key ≡ record_key prefix (primary_key r) → ⊥) records

-- in the place of records a map has these, and nothing else
pub record HasRecords (prefix : List ℕ) (records : List Record) (m : Map) : Type 0 where
  pub each : AllByRecursion (HasRecord prefix m) records
  pub no_others :
      (bytes : List ℕ) → IsNoRecord prefix records (place prefix place_of_records ++ bytes) →
      get m (place prefix place_of_records ++ bytes) ≡ None

-- no entry and no total of these indexes can have the key
abbrev pub IsNoEntry : List ℕ → List IndexDefinition → List ℕ → Type 0
IsNoEntry prefix indexes key = AllByRecursion (λ index. BeginsWith (entries_prefix prefix index.number) key → ⊥) indexes

-- no built range of these indexes can have the key
abbrev pub IsNoRange : List ℕ → List IndexDefinition → List ℕ → Type 0
IsNoRange prefix indexes key = AllByRecursion (λ index. BeginsWith (built_place prefix index.number) key → ⊥) indexes

-- what a map has of an index's built positions by its status: a set that has just these where it is write-only, else
-- nothing
abbrev pub HasPositions : List ℕ → ℕ → Map → Status → Type 0
HasPositions prefix number m (WriteOnly built) = HasSet (built_place prefix number) built m
HasPositions prefix number m status = (bytes : List ℕ) → get m (built_place prefix number ++ bytes) ≡ None

-- a key of no place: it isn't the schema's, and no record, entry, total, state or built range can have it
pub record IsElsewhere (prefix : List ℕ) (indexes : List IndexDefinition) (key : List ℕ) : Type 0 where
  pub schema : key ≡ schema_key prefix → ⊥
  pub records : BeginsWith (place prefix place_of_records) key → ⊥
  pub entries : IsNoEntry prefix indexes key
  pub states : BeginsWith (place prefix place_of_states) key → ⊥
  pub ranges : IsNoRange prefix indexes key

-- under the prefix the map has just what stands for this lawful store
pub record HoldsStore (prefix : List ℕ) (m : Map) (store : Store) : Type 0 where
  pub lawful : IsLawful store
  pub schema : get m (schema_key prefix) ≡ Some (schema_bytes store.schema)
  pub records : HasRecords prefix store.records m
  pub entries :
      AllByRecursion
      (λ index. HasKept (state_of store index.number) prefix index (built_of store index.number) store.records m)
      store.schema.indexes
  pub states : HasPairs (place prefix place_of_states) (map (state_pair prefix) (listed_states store)) m
  pub ranges :
      AllByRecursion (λ index. HasPositions prefix index.number m (store.status index.number)) store.schema.indexes
  pub nothing_else :
      (key : List ℕ) → BeginsWith prefix key → IsElsewhere prefix store.schema.indexes key → get m key ≡ None

-- under the prefix the map has nothing, or just what stands for the store
abbrev pub Holds : List ℕ → Map → Serial → Type 0
Holds prefix m None = (bytes : List ℕ) → get m (prefix ++ bytes) ≡ None
Holds prefix m (Some store) = HoldsStore prefix m store
