-- Which keys a command may read and write in the store under a prefix, by what is there: its reach, as sets of keys.
use Rattle.std.specs.Prelude.{◌≡◌, ◌⊎◌, ℕ, List, Contains, Some, None, Ok, IsTrue}
use Rattle.tuple_codec.specs.Item.{Item}
use Rattle.tuple_codec.specs.Subspace.{BeginsWith}
use Rattle.kv_core.specs.Range.{covers}
use Rattle.metadata.specs.declared.definition.TypeDefinition.{TypeDefinition}
use Rattle.metadata.specs.declared.index.IndexDefinition.{IndexDefinition}
use Rattle.metadata.specs.declared.index.State.{State}
use Rattle.metadata.specs.declared.index.State.TheVariants.{Readable, WriteOnly, Disabled}
use Rattle.metadata.specs.IndexChange.{new_index}
use Rattle.metadata.specs.Layout.{entries_prefix, record_key, records_prefix}
use Rattle.metadata.specs.Record.{Record, key_of, primary_key, record_of}
use Rattle.metadata.specs.Schema.{find_index, find_type}
use Rattle.index_maint.specs.Layout.{built_place}
use Rattle.index_maint.specs.Totals.{group_key}
use Rattle.planner.specs.Right.{indexes_of}
use Rattle.planner.specs.View.{plan_of}
use Rattle.record_store.specs.BuiltReading.{type_number_in}
use Rattle.record_store.specs.Layout.{schema_key, state_key, store_prefix}
use Rattle.record_store.specs.Store.{Serial, Store, state_of}
use Rattle.schedule.specs.Reach.{open_reach}
use Rattle.schedule.specs.declared.step.Command.{Command}
use Rattle.schedule.specs.declared.step.Command.TheVariants.{Aggregate, Build, Disable, Drop, Index, Load, Query}
use Rattle.schedule.specs.declared.step.Command.TheVariants.{Create, Execute, Field, Remove, Save, «Type»}
use Rattle.schedule.specs.declared.step.Command.TheVariants as commands

-- a key of a record of the type with this number
abbrev pub IsOfRecords : List ℕ → ℕ → List ℕ → Type 0
IsOfRecords prefix number key = BeginsWith (records_prefix prefix number) key

-- a key of an entry or a total of the index with this number, and one of a built range of it
abbrev pub IsOfEntries : List ℕ → ℕ → List ℕ → Type 0
IsOfEntries prefix number key = BeginsWith (entries_prefix prefix number) key

abbrev pub IsOfBuilt : List ℕ → ℕ → List ℕ → Type 0
IsOfBuilt prefix number key = BeginsWith (built_place prefix number) key

-- a key of an index of the store that is such, and in such a state
pub record IsOfIndexes (store : Store) (IsSuch : IndexDefinition → Type 0) (IsIn : State → Type 0)
    (IsOf : ℕ → List ℕ → Type 0) (key : List ℕ) : Type 0 where
  pub index : IndexDefinition
  pub there : Contains store.schema.indexes index
  pub such : IsSuch index
  pub state : IsIn (state_of store index.number)
  pub of : IsOf index.number key

-- of an index over the type with this number
abbrev pub IsOfType : ℕ → IndexDefinition → Type 0
IsOfType number index = index.type_number ≡ number

-- ---- read

-- by a writer of the record with this primary key: its key, and the built ranges of its type's write-only indexes
abbrev pub MayReadWriting : List ℕ → Store → List Item → List ℕ → Type 0
MayReadWriting prefix store k key =
    (key ≡ record_key prefix k)
    ⊎ IsOfIndexes store (IsOfType (type_number_in k)) (λ state. state ≡ WriteOnly) (IsOfBuilt prefix) key

-- by a plan over the type with this number: its records, and the entries of readable indexes that are such
abbrev pub MayReadScanning : List ℕ → Store → ℕ → (IndexDefinition → Type 0) → List ℕ → Type 0
MayReadScanning prefix store number IsSuch key =
    IsOfRecords prefix number key ⊎ IsOfIndexes store IsSuch (λ state. state ≡ Readable) (IsOfEntries prefix) key

-- what a command may read of a store besides what opens it
abbrev pub MayReadIn : List ℕ → Store → Command → List ℕ → Type 0
MayReadIn prefix store (Save name cells) key =
    (r : Record) × (record_of store.schema name cells ≡ Ok r) × MayReadWriting prefix store (primary_key r) key
MayReadIn prefix store (Remove name cells) key =
    (k : List Item) × (key_of store.schema name cells ≡ Ok k) × MayReadWriting prefix store k key
MayReadIn prefix store (Load name cells) key =
    (k : List Item) × (key_of store.schema name cells ≡ Ok k) × (key ≡ record_key prefix k)
MayReadIn prefix store (Query query) key =
    (t : TypeDefinition) × (find_type store.schema query.record_type ≡ Some t)
    × MayReadScanning prefix store t.number (IsOfType t.number) key
MayReadIn prefix store (Execute plan) key =
    (t : TypeDefinition) × (find_type store.schema plan.definition.name ≡ Some t)
    × MayReadScanning prefix store t.number (Contains (indexes_of (plan_of plan).root)) key
MayReadIn prefix store (Index request) key =
    (index : IndexDefinition) × (new_index store.schema request ≡ Ok index) × IsOfRecords prefix index.type_number key
MayReadIn prefix store (commands.Readable name) key =
    (index : IndexDefinition) × (find_index store.schema name ≡ Some index) × IsOfBuilt prefix index.number key
MayReadIn prefix store (Build name limit) key =
    (index : IndexDefinition) × (find_index store.schema name ≡ Some index)
    × (IsOfBuilt prefix index.number key ⊎ IsOfRecords prefix index.type_number key)
MayReadIn prefix store (Aggregate name group) key =
    (index : IndexDefinition) × (find_index store.schema name ≡ Some index)
    × (key ≡ group_key prefix index.number group)
MayReadIn prefix store command key = ⊥

-- READ: a key that a command may read in the store with a number: of the schema or the states of indexes, to open the
-- store, or of its own
abbrev pub MayReadThere : ℕ → Serial → Command → List ℕ → Type 0
MayReadThere number None command key = ⊥
MayReadThere number (Some store) command key = MayReadIn (store_prefix number) store command key

abbrev pub MayReadKey : ℕ → Serial → Command → List ℕ → Type 0
MayReadKey number serial command key =
    IsTrue (covers (open_reach number command) key) ⊎ MayReadThere number serial command key

-- ---- written

-- by a writer of the record with this primary key: its key, and entries and totals of its type's indexes that aren't
-- disabled
abbrev pub MayWriteWriting : List ℕ → Store → List Item → List ℕ → Type 0
MayWriteWriting prefix store k key =
    (key ≡ record_key prefix k)
    ⊎ IsOfIndexes store (IsOfType (type_number_in k)) (λ state. state ≡ Disabled → ⊥) (IsOfEntries prefix) key

-- by what changes an index: its state and its built ranges; and by what empties it: its entries or totals too
abbrev pub MayWriteMarking : List ℕ → ℕ → List ℕ → Type 0
MayWriteMarking prefix number key = (key ≡ state_key prefix number) ⊎ IsOfBuilt prefix number key

abbrev pub MayWriteEmptying : List ℕ → ℕ → List ℕ → Type 0
MayWriteEmptying prefix number key = MayWriteMarking prefix number key ⊎ IsOfEntries prefix number key

-- what a command may write of a store
abbrev pub MayWriteIn : List ℕ → Store → Command → List ℕ → Type 0
MayWriteIn prefix store («Type» request) key = key ≡ schema_key prefix
MayWriteIn prefix store (Field name field) key = key ≡ schema_key prefix
MayWriteIn prefix store (Save name cells) key =
    (r : Record) × (record_of store.schema name cells ≡ Ok r) × MayWriteWriting prefix store (primary_key r) key
MayWriteIn prefix store (Remove name cells) key =
    (k : List Item) × (key_of store.schema name cells ≡ Ok k) × MayWriteWriting prefix store k key
MayWriteIn prefix store (Index request) key =
    (key ≡ schema_key prefix)
    ⊎ ((index : IndexDefinition) × (new_index store.schema request ≡ Ok index)
    × (key ≡ state_key prefix index.number))
MayWriteIn prefix store (Drop name) key =
    (key ≡ schema_key prefix)
    ⊎ ((index : IndexDefinition) × (find_index store.schema name ≡ Some index)
    × MayWriteEmptying prefix index.number key)
MayWriteIn prefix store (Disable name) key =
    (index : IndexDefinition) × (find_index store.schema name ≡ Some index) × MayWriteEmptying prefix index.number key
MayWriteIn prefix store (commands.WriteOnly name) key =
    (index : IndexDefinition) × (find_index store.schema name ≡ Some index) × MayWriteEmptying prefix index.number key
MayWriteIn prefix store (commands.Readable name) key =
    (index : IndexDefinition) × (find_index store.schema name ≡ Some index) × MayWriteMarking prefix index.number key
MayWriteIn prefix store (Build name limit) key =
    (index : IndexDefinition) × (find_index store.schema name ≡ Some index)
    × (IsOfEntries prefix index.number key ⊎ IsOfBuilt prefix index.number key)
MayWriteIn prefix store command key = ⊥

-- WRITTEN: a key that a command may write in the store with a number: making a store writes its schema alone
abbrev pub MayWriteNew : ℕ → Command → List ℕ → Type 0
MayWriteNew number (Create request) key = key ≡ schema_key (store_prefix number)
MayWriteNew number command key = ⊥

abbrev pub MayWriteKey : ℕ → Serial → Command → List ℕ → Type 0
MayWriteKey number None command key = MayWriteNew number command key
MayWriteKey number (Some store) command key = MayWriteIn (store_prefix number) store command key
