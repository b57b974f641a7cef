-- The serial store: a schema, records by primary key, and the status of each index, as values.
use Rattle.std.specs.Prelude.{ℕ, ◌-◌, ◌==◌, not, List, [], ◌∷◌, ◌++◌, Option, Some, None, length, replicate}
use Rattle.std.specs.Prelude.{unwrap_or, filter, map, if◌then◌else◌}
use Rattle.std.specs.Option.{option_map}
use Rattle.tuple_codec.specs.Item.{Item}
use Rattle.kv_core.specs.Range.{KeyRange}
use Rattle.metadata.specs.declared.cells.Cell.TheVariants.{Null}
use Rattle.metadata.specs.declared.definition.TypeDefinition.{TypeDefinition}
use Rattle.metadata.specs.declared.index.IndexDefinition.{IndexDefinition}
use Rattle.metadata.specs.declared.index.State.{State}
use Rattle.metadata.specs.declared.index.State.TheVariants as declared
use Rattle.metadata.specs.Index.{is_readable, listed_state}
use Rattle.metadata.specs.IndexChange.{with_index, without_index}
use Rattle.metadata.specs.Schema.{Schema, type_at}
use Rattle.metadata.specs.Record.{Record}
use Rattle.metadata.specs.Records.{of_type, with_record, without_record}

-- what an index is: readable, disabled, or write-only with the positions that are built, as ranges of which only the
-- positions count
pub data Status : Type 0 where
  Readable : Status
  Disabled : Status
  WriteOnly : List KeyRange → Status

-- a store: its records stand in the order of their primary keys, each key once; its indexes have a status by number
pub record Store : Type 0 where
  pub schema : Schema
  pub records : List Record
  pub status : ℕ → Status

-- the state and the built positions of an index with a status, and of the index with a number
abbrev pub state_by : Status → State
state_by Readable = declared.Readable
state_by Disabled = declared.Disabled
state_by (WriteOnly built) = declared.WriteOnly

abbrev pub built_by : Status → List KeyRange
built_by (WriteOnly built) = built
built_by status = []

abbrev pub state_of : Store → ℕ → State
state_of store number = state_by (store.status number)

abbrev pub built_of : Store → ℕ → List KeyRange
built_of store number = built_by (store.status number)

-- the states that are listed of indexes, with the indexes' numbers: those of the ones that aren't readable
abbrev pub listed_by : List IndexDefinition → (ℕ → State) → List (ℕ × State)
listed_by indexes state =
    filter (λ one. not (is_readable one.1)) (map (λ index. (index.number, state index.number)) indexes)

abbrev pub listed_states : Store → List (ℕ × State)
listed_states store = listed_by store.schema.indexes (state_of store)

-- the state of the index with this number, where these are listed
abbrev pub state_in : List (ℕ × State) → ℕ → State
state_in states number = unwrap_or (listed_state states number) declared.Readable

-- no store, or a store
abbrev pub Serial : Type 0
Serial = Option Store

-- Private: the schema of what is there
abbrev pub schema_in : Serial → Option Schema
schema_in serial = option_map (λ store. store.schema) serial

-- a new store of this schema, without records, whose indexes are readable
abbrev pub created : Schema → Store
created schema = record { schema = schema; records = []; status = λ number. Readable }

-- the store after a save, after a removal, and with another schema
abbrev pub saved : Store → Record → Store
saved store «record» = record store { records = with_record «record» store.records }

abbrev pub removed : Store → List Item → Store
removed store key = record store { records = without_record key store.records }

abbrev pub extended : Store → Schema → Store
extended store schema = record store { schema = schema }

-- a record as one of this type: null in the fields that it lacks
abbrev pub grown_as : TypeDefinition → Record → Record
grown_as type r = record {
  definition = type;
  cells = r.cells ++ replicate (length type.fields - length r.cells) Null;
}

-- a record as its type is in a schema
abbrev pub grown : Schema → Record → Record
grown schema r = elim (type_at schema.types r.definition.number) [ Some type ↦ grown_as type r | None ↦ r ]

-- the store with another schema, in which fields are appended to types
abbrev pub widened : Store → Schema → Store
widened store schema = record store { schema = schema; records = map (grown schema) store.records }

-- values by number, with this one for a number
abbrev pub altered_at : {X : Type 0} → ℕ → X → (ℕ → X) → ℕ → X
altered_at number value values = λ other. if other == number then value else values other

-- the store where the index with this number has this status
abbrev pub with_status : Store → ℕ → Status → Store
with_status store number status = record store { status = altered_at number status store.status }

-- the status of an index that is marked with a state, of which nothing is built
abbrev pub marked_so : State → Status
marked_so declared.Readable = Readable
marked_so declared.WriteOnly = WriteOnly []
marked_so declared.Disabled = Disabled

abbrev pub marked : Store → ℕ → State → Store
marked store number state = with_status store number (marked_so state)

-- the state of a new index over these records: it is readable where there are none, else disabled
abbrev pub new_state : List Record → State
new_state [] = declared.Readable
new_state (r ∷ records) = declared.Disabled

-- the store with one more index, and without the index with this number, of which nothing is kept
abbrev pub indexed : Store → IndexDefinition → Store
indexed store index =
    marked (extended store (with_index store.schema index)) index.number
    (new_state (of_type index.type_number store.records))

abbrev pub dropped : Store → ℕ → Store
dropped store number = marked (extended store (without_index store.schema number)) number declared.Readable

-- the store where this range of that index is built too
abbrev pub built : Store → ℕ → KeyRange → Store
built store number range = with_status store number (WriteOnly (range ∷ built_of store number))
