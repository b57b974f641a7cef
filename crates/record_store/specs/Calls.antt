-- The calls on an open store, one by one: what each reads and writes, for what it means; and the opened store after it.
use Rattle.std.specs.Prelude.{◌≡◌, ℕ, ℤ, Bool, List, [], ◌∷◌, Option, Some, None, Result, Ok, Err, map}
use Rattle.tuple_codec.specs.Item.{Item}
use Rattle.kv_core.specs.Range.{point}
use Rattle.kv_core.specs.declared.change.Mutation.{Mutation}
use Rattle.kv_core.specs.declared.change.Mutation.TheVariants.{Set}
use Rattle.metadata.specs.declared.cells.Cell.{Cell}
use Rattle.metadata.specs.declared.definition.Field.{Field}
use Rattle.metadata.specs.declared.definition.TypeRequest.{TypeRequest}
use Rattle.metadata.specs.declared.index.IndexDefinition.{IndexDefinition}
use Rattle.metadata.specs.declared.index.IndexRequest.{IndexRequest}
use Rattle.metadata.specs.declared.index.State.{State}
use Rattle.metadata.specs.declared.index.State.TheVariants.{Readable, WriteOnly, Disabled}
use Rattle.metadata.specs.declared.refusal.Refusal.{Refusal}
use Rattle.metadata.specs.declared.refusal.Refusal.TheVariants.{UnknownIndex}
use Rattle.metadata.specs.Change.{add_field, add_type}
use Rattle.metadata.specs.IndexChange.{new_index, with_index, without_index}
use Rattle.metadata.specs.Record.{Record, key_of, primary_key, record_of}
use Rattle.metadata.specs.Records.{record_at}
use Rattle.metadata.specs.Schema.{Schema, find_index, find_type}
use Rattle.metadata.specs.Written.{schema_bytes}
use Rattle.index_maint.specs.Totals.{group_key}
use Rattle.record_store.specs.Store.{listed_by, altered_at, state_in}
use Rattle.record_store.specs.Layout.{record_key, schema_key, type_range}
use Rattle.record_store.specs.IndexWrites.{drop_writes, index_added_writes, marked_writes, readable_writes}
use Rattle.record_store.specs.IndexWrites.{remove_writes, save_writes}
use Rattle.index_maint.specs.Built.{position_of}
use Rattle.record_store.specs.BuiltReading.{built_reading, type_number_in}
use Rattle.record_store.specs.Meaning.{by_schema, drop_meaning, field_meaning, index_meaning, index_number}
use Rattle.record_store.specs.Meaning.{load_meaning, mark_meaning}
use Rattle.record_store.specs.Meaning.{own_record, readable_meaning, records_meaning, remove_meaning, save_meaning}
use Rattle.record_store.specs.Meaning.{total_meaning, totalled_index, type_meaning, type_number_of, write_only_named}
use Rattle.record_store.specs.Call.{Call, Footprint, Opened, all_built, call_on, first_of, reads_only, then_reads}
use Rattle.record_store.specs.Call.{where_there, whole}

-- LOAD
abbrev pub load_footprint : Opened → List Item → Footprint
load_footprint opened key = reads_only (whole (point (record_key opened.prefix key) ∷ []))

abbrev pub load_call : Opened → List ℕ → List Cell → Call (Option Record)
load_call opened name cells = call_on load_meaning (load_footprint opened) (by_schema (key_of opened.schema name cells))

-- SAVE: the record's indexes follow it; for that is read whether its position is built
abbrev pub save_footprint : Opened → Record → Footprint
save_footprint opened r = record {
  reading =
      then_reads (whole (point (record_key opened.prefix (primary_key r)) ∷ []))
      (built_reading opened r.definition.number (position_of (primary_key r)) opened.schema.indexes);
  writes = λ m store. save_writes opened.prefix store r;
}

abbrev pub save_call : Opened → Record → Call (Option Record)
save_call opened r = call_on save_meaning (save_footprint opened) (own_record opened.schema r)

-- so of the record that the schema makes of cells
abbrev pub save_as_call : Opened → List ℕ → List Cell → Call (Option Record)
save_as_call opened name cells =
    call_on save_meaning (save_footprint opened) (by_schema (record_of opened.schema name cells))

-- REMOVE: the record's indexes follow; where it is there is read whether its position is built
abbrev pub remove_footprint : Opened → List Item → Footprint
remove_footprint opened key = record {
  reading =
      then_reads (whole (point (record_key opened.prefix key) ∷ []))
      (where_there (record_key opened.prefix key)
      (built_reading opened (type_number_in key) (position_of key) opened.schema.indexes));
  writes = λ m store. remove_writes opened.prefix store key (record_at key store.records);
}

abbrev pub remove_call : Opened → List ℕ → List Cell → Call Bool
remove_call opened name cells =
    call_on remove_meaning (remove_footprint opened) (by_schema (key_of opened.schema name cells))

-- RECORDS
abbrev pub records_footprint : Opened → ℕ → Footprint
records_footprint opened number = reads_only (whole (type_range opened.prefix number ∷ []))

abbrev pub records_call : Opened → List ℕ → Call (List Record)
records_call opened name =
    call_on records_meaning (records_footprint opened) (by_schema (type_number_of (find_type opened.schema name)))

-- AGGREGATE
abbrev pub total_footprint : Opened → List Cell → IndexDefinition → Footprint
total_footprint opened group index = reads_only (whole (point (group_key opened.prefix index.number group) ∷ []))

abbrev pub aggregate_call : Opened → List ℕ → List Cell → Call ℤ
aggregate_call opened name group =
    call_on (total_meaning group) (total_footprint opened group)
    (totalled_index opened.schema opened.states group (find_index opened.schema name))

-- TYPE: the schema is written
abbrev pub schema_writes : List ℕ → Schema → List Mutation
schema_writes prefix schema = Set (schema_key prefix) (schema_bytes schema) ∷ []

abbrev pub type_footprint : Opened → Schema → Footprint
type_footprint opened schema = record { reading = whole []; writes = λ m store. schema_writes opened.prefix schema }

abbrev pub type_call : Opened → TypeRequest → Call Schema
type_call opened request =
    call_on type_meaning (type_footprint opened) (by_schema (add_type opened.schema request))

-- FIELD: the schema is written, and no record
abbrev pub field_call : Opened → List ℕ → Field → Call Schema
field_call opened name field =
    call_on field_meaning (type_footprint opened) (by_schema (add_field opened.schema name field))

-- INDEX: of the type's records the first alone is read
abbrev pub index_footprint : Opened → IndexDefinition → Footprint
index_footprint opened index = record {
  reading = first_of (type_range opened.prefix index.type_number);
  writes = λ m store. index_added_writes opened.prefix store index;
}

abbrev pub index_call : Opened → IndexRequest → Call State
index_call opened request =
    call_on index_meaning (index_footprint opened) (by_schema (new_index opened.schema request))

-- the opened store with this schema, where the index with this number has this state
abbrev pub opened_with : Opened → Schema → ℕ → State → Opened
opened_with opened schema number state =
    record opened {
      schema = schema;
      states = listed_by schema.indexes (altered_at number state (state_in opened.states));
    }

-- the opened store with one more index that has this state
pub record IsIndexedAs (old new : Opened) (request : IndexRequest) (state : State) : Type 0 where
  pub index : IndexDefinition
  pub accepted : new_index old.schema request ≡ Ok index
  pub is : new ≡ opened_with old (with_index old.schema index) index.number state

-- DROP: the schema is written without the index, and what is kept of it goes
abbrev pub drop_footprint : Opened → ℕ → Footprint
drop_footprint opened number =
    record { reading = whole []; writes = λ m store. drop_writes opened.prefix store number }

abbrev pub drop_call : Opened → List ℕ → Call Schema
drop_call opened name =
    call_on drop_meaning (drop_footprint opened) (by_schema (index_number (find_index opened.schema name)))

-- MARK: the state is written, and what is kept of the index goes
abbrev pub mark_footprint : State → Opened → ℕ → Footprint
mark_footprint state opened number =
    record { reading = whole []; writes = λ m store. marked_writes state opened.prefix number }

abbrev pub mark_call : State → Opened → List ℕ → Call (List (ℕ × State))
mark_call state opened name =
    call_on (mark_meaning state) (mark_footprint state opened)
    (by_schema (index_number (find_index opened.schema name)))

-- DISABLE and WRITE-ONLY of an index by its name, which are MARK with these states
abbrev pub disable_call : Opened → List ℕ → Call (List (ℕ × State))
disable_call opened name = mark_call Disabled opened name

abbrev pub write_only_call : Opened → List ℕ → Call (List (ℕ × State))
write_only_call opened name = mark_call WriteOnly opened name

-- READABLE: the built ranges of the index are read; its state and these ranges go
abbrev pub readable_footprint : Opened → ℕ → Footprint
readable_footprint opened number =
    record { reading = all_built opened.prefix number; writes = λ m store. readable_writes opened.prefix number }

abbrev pub readable_call : Opened → List ℕ → Call (List (ℕ × State))
readable_call opened name =
    call_on (λ index. readable_meaning index.number) (λ index. readable_footprint opened index.number)
    (write_only_named opened.schema opened.states name)

-- so without the index with this number, and with that index in this state
abbrev pub opened_without : Opened → ℕ → Opened
opened_without opened number = opened_with opened (without_index opened.schema number) number Readable

abbrev pub opened_marked : Opened → ℕ → State → Opened
opened_marked opened number state = opened_with opened opened.schema number state

-- STATE: the state of the index of this name, or the refusal
abbrev pub state_named : Opened → List ℕ → Result State Refusal
state_named opened name =
    elim (find_index opened.schema name) [
      | None ↦ Err UnknownIndex
      | Some index ↦ Ok (state_in opened.states index.number)
    ]

-- STATES: the number and the state of each index, in the order of the schema's indexes
abbrev pub index_states : Opened → List (ℕ × State)
index_states opened = map (λ index. (index.number, state_in opened.states index.number)) opened.schema.indexes
