-- What a command reads, in order, and what it writes, in the store with a number.
use Rattle.std.specs.Prelude.{ℕ, zero, suc, List, [], ◌++◌, Option, Some, None, option_map, Result, Ok, Err}
use Rattle.planner.specs.View.{plan_of}
use Rattle.kv_core.specs.Range.{KeyRange}
use Rattle.kv_core.specs.Map.{Map}
use Rattle.kv_core.specs.declared.change.Mutation.{Mutation}
use Rattle.metadata.specs.declared.refusal.Refusal.{Refusal}
use Rattle.metadata.specs.declared.index.State.TheVariants.{WriteOnly, Disabled}
use Rattle.metadata.specs.Asked.{schema_asked}
use Rattle.metadata.specs.Change.{add_field, add_type}
use Rattle.metadata.specs.IndexChange.{new_index}
use Rattle.metadata.specs.Schema.{Schema, find_index}
use Rattle.metadata.specs.Record.{record_of, key_of}
use Rattle.schedule.specs.declared.step.Command.{Command}
use Rattle.schedule.specs.declared.step.Command.TheVariants.{Create, «Type», Save, Load, Remove}
use Rattle.schedule.specs.declared.step.Command.TheVariants.{Query, Execute, Index, Drop, Disable, Aggregate}
use Rattle.schedule.specs.declared.step.Command.TheVariants as commands
use Rattle.record_store.specs.declared.error.StoreError.{StoreError}
use Rattle.record_store.specs.Store.{Serial}
use Rattle.record_store.specs.Call.{Footprint, Opened, Reading, reads_only, whole}
use Rattle.record_store.specs.Layout.{store_prefix}
use Rattle.record_store.specs.Opening.{opening_reach}
use Rattle.record_store.specs.Calls.{drop_footprint, index_footprint, load_footprint, mark_footprint}
use Rattle.record_store.specs.Calls.{readable_footprint, remove_footprint, save_footprint, schema_writes}
use Rattle.record_store.specs.Calls.{total_footprint, type_footprint}
use Rattle.record_store.specs.Meaning.{by_schema, index_number, totalled_index, write_only_named}
use Rattle.online_builder.specs.Stepping.{step_footprint}
use Rattle.schedule.specs.Executed.{plan_steps, query_steps, steps_damage, steps_reading}
use Rattle.schedule.specs.Query.{opened_as}
use Rattle.schedule.specs.Serve.{Line, Replies, serial_line}

-- what opening the store finds of what is there
abbrev pub opened_in : ℕ → Serial → Option Opened
opened_in number serial = option_map (opened_as (store_prefix number)) serial

-- the footprint of a call by what it asks for: none where it is refused before
abbrev pub footprint_on : {K : Type 0} → (K → Footprint) → Result K StoreError → Footprint
footprint_on footprint (Ok value) = footprint value
footprint_on footprint (Err error) = reads_only (whole [])

-- the footprint of a command after the opening of the store: that of its call, or of the steps of its plan
abbrev pub footprint_in : Opened → Command → Footprint
footprint_in opened («Type» request) =
    footprint_on (type_footprint opened) (by_schema (add_type opened.schema request))
footprint_in opened (commands.Field name field) =
    footprint_on (type_footprint opened) (by_schema (add_field opened.schema name field))
footprint_in opened (Save name cells) =
    footprint_on (save_footprint opened) (by_schema (record_of opened.schema name cells))
footprint_in opened (Load name cells) =
    footprint_on (load_footprint opened) (by_schema (key_of opened.schema name cells))
footprint_in opened (Remove name cells) =
    footprint_on (remove_footprint opened) (by_schema (key_of opened.schema name cells))
footprint_in opened (Query query) = reads_only (steps_reading opened (query_steps opened query))
footprint_in opened (Execute plan) = reads_only (steps_reading opened (plan_steps opened (plan_of plan)))
footprint_in opened (Index request) =
    footprint_on (index_footprint opened) (by_schema (new_index opened.schema request))
footprint_in opened (Drop name) =
    footprint_on (drop_footprint opened) (by_schema (index_number (find_index opened.schema name)))
footprint_in opened (Disable name) =
    footprint_on (mark_footprint Disabled opened) (by_schema (index_number (find_index opened.schema name)))
footprint_in opened (commands.WriteOnly name) =
    footprint_on (mark_footprint WriteOnly opened) (by_schema (index_number (find_index opened.schema name)))
footprint_in opened (commands.Readable name) =
    footprint_on (λ index. readable_footprint opened index.number)
    (write_only_named opened.schema opened.states name)
footprint_in opened (commands.Build name (suc more)) =
    footprint_on (step_footprint opened (suc more)) (write_only_named opened.schema opened.states name)
footprint_in opened (Aggregate name group) =
    footprint_on (total_footprint opened group)
    (totalled_index opened.schema opened.states group (find_index opened.schema name))
footprint_in opened command = reads_only (whole [])

-- what a command reads after the opening of the store
abbrev pub own_reading : Option Opened → Command → Reading
own_reading None command = whole []
own_reading (Some opened) command = (footprint_in opened command).reading

-- the key of the first damaged pair that the steps of a command's plan meet in a map, if there is one
abbrev pub own_damage : Option Opened → Command → Map → Option (List ℕ)
own_damage (Some opened) (Query query) m = steps_damage opened (query_steps opened query) m
own_damage (Some opened) (Execute plan) m = steps_damage opened (plan_steps opened (plan_of plan)) m
own_damage opened command m = None

-- what a command reads to open the store: nothing where it makes one of types and indexes that are refused, or is to
-- build no record
abbrev pub make_reach : ℕ → Result Schema Refusal → List KeyRange
make_reach number (Ok schema) = opening_reach (store_prefix number)
make_reach number (Err refusal) = []

abbrev pub open_reach : ℕ → Command → List KeyRange
open_reach number (Create request) = make_reach number (schema_asked request)
open_reach number (commands.Build name zero) = []
open_reach number command = opening_reach (store_prefix number)

-- the ranges that a command asks a map for, in order: those of opening the store, and its own by what was opened
abbrev pub reach : ℕ → Option Opened → Command → Map → List KeyRange
reach number opened command m = open_reach number command ++ (own_reading opened command).asked m

-- the ranges that it then adds to those read, in order
abbrev pub added_by : ℕ → Option Opened → Command → Map → List KeyRange
added_by number opened command m = open_reach number command ++ (own_reading opened command).added m

-- what making a store writes: the schema
abbrev pub schema_written : ℕ → Result Schema Refusal → List Mutation
schema_written number (Ok schema) = schema_writes (store_prefix number) schema
schema_written number (Err refusal) = []

-- what a command writes by its footprint where it isn't refused
abbrev pub footprint_writes : ℕ → Map → Serial → Command → List Mutation
footprint_writes number m None (Create request) = schema_written number (schema_asked request)
footprint_writes number m None command = []
footprint_writes number m (Some store) command =
    (footprint_in (opened_as (store_prefix number) store) command).writes m store

-- what is written with a line: nothing where it refuses, or looks at what is there
abbrev pub written_with : Line → List Mutation → List Mutation
written_with (Replies told after) mutations = mutations
written_with other mutations = []

-- what a command writes, in order, by the map and what is there
abbrev pub writes : ℕ → Map → Serial → Command → List Mutation
writes number m serial command =
    written_with (serial_line serial command) (footprint_writes number m serial command)
