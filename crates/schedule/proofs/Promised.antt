-- The headline and what is right of a run, from what is exact of it.
use Rattle.std.proofs.Common.{◌≡◌, ℕ, Bool, true, false, List, [], ◌∷◌, Option, Some, None, Result, Ok, Err, zero, suc, refl, subst}
use Rattle.std.specs.List.{AllByRecursion}
use Rattle.kv_core.specs.Map.{Map}
use Rattle.kv_core.specs.Range.{KeyRange}
use Rattle.metadata.specs.declared.index.IndexDefinition.{IndexDefinition}
use Rattle.metadata.specs.declared.index.State as index_state
use Rattle.metadata.specs.declared.index.State.TheVariants as state
use Rattle.index_maint.specs.Kept.{HasDefined, HasKept}
use Rattle.metadata.specs.declared.cells.Cell.{Cell}
use Rattle.metadata.specs.declared.refusal.Refusal.{Refusal as SchemaRefusal}
use Rattle.metadata.specs.Asked.{schema_asked}
use Rattle.metadata.specs.Change.{add_field, add_type}
use Rattle.metadata.specs.IndexChange.{new_index}
use Rattle.metadata.specs.Record.{Record, key_of, record_of}
use Rattle.metadata.specs.Schema.{Schema, find_index}
use Rattle.kv_core.specs.declared.change.WriteError.TheVariants as write
use Rattle.kv_core.specs.declared.snapshot.ReadError.TheVariants as read
use Rattle.record_store.specs.declared.error.StoreError.{StoreError}
use Rattle.record_store.specs.declared.error.StoreError.TheVariants as fault
use Rattle.record_store.specs.Meaning.{Meaning, by_schema, drop_meaning, index_meaning, index_number, load_meaning, mark_meaning, readable_meaning, remove_meaning, save_meaning, state_meaning}
use Rattle.record_store.specs.Meaning.{field_meaning, total_meaning, totalled_index, type_meaning, write_only_named}
use Rattle.record_store.specs.Layout.{store_prefix}
use Rattle.record_store.specs.Store.{Serial, Store, built_of, listed_states, state_of}
use Rattle.online_builder.specs.Stepping.{step_meaning}
use Rattle.online_builder.specs.declared.progress.Progress.{Progress}
use Rattle.online_builder.specs.declared.progress.Progress.TheVariants as progress
use Rattle.query.specs.declared.error.QueryError.{QueryError}
use Rattle.query.specs.Checked.{query_refusal}
use Rattle.planner.specs.Right.{is_served}
use Rattle.query.specs.Query as asked
use Rattle.schedule.specs.declared.step.Command.{Command}
use Rattle.schedule.specs.declared.step.Command.TheVariants as commands
use Rattle.schedule.specs.declared.step.Command.TheVariants.{Create, «Type», Save, Load, Remove, Query, Plan, Execute, Index, Drop, Disable, WriteOnly, Readable, Build, State, Aggregate}
use Rattle.schedule.specs.declared.reply.Reply.{Reply}
use Rattle.schedule.specs.declared.reply.Reply.TheVariants.{Rows}
use Rattle.schedule.specs.declared.reply.Reply.TheVariants as reply
use Rattle.schedule.specs.Holds.{Stands}
use Rattle.schedule.specs.Refusals.{of_query, reply_of}
use Rattle.schedule.specs.Query.{AreRows, IsQueryReply, IsRowsReply, Unrefused, states_of}
use Rattle.schedule.specs.Planning.{IsPlanned, IsPlanReply}
use Rattle.schedule.specs.Serve.{IsReply, IsReplyOf, answering, calling, creating, done, reply_to_build, reply_to_load, reply_to_remove, reply_to_save}
use Rattle.schedule.specs.Past.{Attempt, is_accepted}
use Rattle.schedule.specs.Contract.{attempted}
use Rattle.schedule.specs.Exact.{IsSerialAt}
use Rattle.schedule.specs.Headline.{AreRightlyAnswered, HasExactIndexes, IsRightlyAnswered}

-- ---- indexes

defined_so : (number : ℕ) (now : index_state.State) (index : IndexDefinition) (built : List KeyRange) (records : List Record) (m : Map) → HasKept now (store_prefix number) index built records m → now ≡ state.Readable → HasDefined index.kind (store_prefix number) index records m
defined_so number now index built records m kept is = subst (λ s. HasKept s (store_prefix number) index built records m) is kept

exact_each : (number : ℕ) (store : Store) (indexes : List IndexDefinition) (m : Map) →
    AllByRecursion (λ (index : IndexDefinition). HasKept (state_of store index.number) (store_prefix number) index (built_of store index.number) store.records m) indexes →
    AllByRecursion (λ (index : IndexDefinition). state_of store index.number ≡ state.Readable → HasDefined index.kind (store_prefix number) index store.records m) indexes
exact_each number store [] m kept = tt
exact_each number store (index ∷ indexes) m kept = (λ is. defined_so number (state_of store index.number) index (built_of store index.number) store.records m kept.0 is, exact_each number store indexes m kept.1)

-- a map that holds what is there has its readable indexes exactly
pub exact_indexes : (number : ℕ) (m : Map) (serial : Serial) → Stands number m serial → HasExactIndexes number m serial
exact_indexes number m None stands = tt
exact_indexes number m (Some store) stands = exact_each number store store.schema.indexes m stands.entries

-- ---- rows

-- no error is told as rows
no_error : (error : StoreError) (cells : List (List Cell)) → reply_of error ≡ Some (Rows cells) → ⊥
no_error fault.Memory cells is = cc
no_error (fault.Read read.FutureVersion) cells is = cc
no_error (fault.Read read.TooOld) cells is = cc
no_error (fault.Read read.Memory) cells is = cc
no_error (fault.Write write.KeyOutside) cells is = cc
no_error (fault.Write write.KeyTooLarge) cells is = cc
no_error (fault.Write write.ValueTooLarge) cells is = cc
no_error (fault.Write write.TransactionTooLarge) cells is = cc
no_error (fault.Write write.Memory) cells is = cc
no_error (fault.Corrupt key) cells is = cc
no_error (fault.Refused refusal) cells is = cc
no_error fault.NoStore cells is = cc
no_error fault.AlreadyThere cells is = cc
no_error fault.OtherSchema cells is = cc
no_error fault.NotAggregate cells is = cc
no_error fault.NotReadable cells is = cc
no_error fault.WrongState cells is = cc
no_error fault.NotBuilt cells is = cc

-- nor is the answer of a call whose replies are others
no_answer : {A : Type 0} (store : Store) (told : A → Reply) (meaning : Meaning A) (result : Result A StoreError) (cells : List (List Cell)) → ((a : A) → Rows cells ≡ told a → ⊥) → IsReplyOf (answering store told meaning result) (Rows cells) → ⊥
no_answer store told meaning (Ok answer) cells others is = others answer is
no_answer store told meaning (Err error) cells others is = no_error error cells is

no_call : {K A : Type 0} (store : Store) (told : A → Reply) (meaning : K → Meaning A) (asked_for : Result K StoreError) (cells : List (List Cell)) → ((a : A) → Rows cells ≡ told a → ⊥) → IsReplyOf (calling store told meaning asked_for) (Rows cells) → ⊥
no_call store told meaning (Ok value) cells others is = no_answer store told (meaning value) ((meaning value).answer store) cells others is
no_call store told meaning (Err error) cells others is = no_error error cells is

no_done : {A : Type 0} (cells : List (List Cell)) (a : A) → Rows cells ≡ done a → ⊥
no_done cells a is = cc

no_save : (cells : List (List Cell)) (a : Option Record) → Rows cells ≡ reply_to_save a → ⊥
no_save cells None is = cc
no_save cells (Some old) is = cc

no_load : (cells : List (List Cell)) (a : Option Record) → Rows cells ≡ reply_to_load a → ⊥
no_load cells None is = cc
no_load cells (Some found) is = cc

no_remove : (cells : List (List Cell)) (a : Bool) → Rows cells ≡ reply_to_remove a → ⊥
no_remove cells true is = cc
no_remove cells false is = cc

no_build : (cells : List (List Cell)) (a : Progress) → Rows cells ≡ reply_to_build a → ⊥
no_build cells (progress.Built records range) is = cc
no_build cells progress.Finished is = cc

no_creation : (serial : Serial) (made : Result Schema SchemaRefusal) (cells : List (List Cell)) → IsReplyOf (creating serial made) (Rows cells) → ⊥
no_creation serial (Err refusal) cells is = cc
no_creation None (Ok schema) cells is = cc
no_creation (Some store) (Ok schema) cells is = cc

rows_of_query : (store : Store) (query : asked.Query) (cells : List (List Cell)) → IsQueryReply store query (Rows cells) → AreRows store query cells
rows_of_query store query cells is = by_refusal (query_refusal store.schema query) (is_served store.schema (states_of store) query) is
  where
    by_refusal : (why : Option QueryError) (served : Bool) → Unrefused why served (IsRowsReply store query) (Rows cells) → AreRows store query cells
    by_refusal (Some error) served says = let no : Rows cells ≡ reply.Refused (of_query error) = says in absurd (cc)
    by_refusal None false says = absurd (cc)
    by_refusal None true says = says

no_plan : (store : Store) (query : asked.Query) (cells : List (List Cell)) → IsPlanReply store.schema (states_of store) query (Rows cells) → ⊥
no_plan store query cells is = by_refusal (query_refusal store.schema query) (is_served store.schema (states_of store) query) is
  where
    by_refusal : (why : Option QueryError) (served : Bool) → Unrefused why served (IsPlanned store.schema (states_of store) query) (Rows cells) → ⊥
    by_refusal (Some error) served says = let no : Rows cells ≡ reply.Refused (of_query error) = says in cc
    by_refusal None false says = cc
    by_refusal None true says = let no : Rows cells ≡ reply.Planned says.plan = says.shown in cc

-- rows that are a command's reply answer its query
rows_there : (serial : Serial) (command : Command) (cells : List (List Cell)) → IsReply serial command (Rows cells) → IsRightlyAnswered serial command (Rows cells)
rows_there serial (Create request) cells is = absurd (no_creation serial (schema_asked request) cells is)
rows_there serial (Build name zero) cells is = absurd (cc)
rows_there None (Query query) cells is = absurd (cc)
rows_there None (Execute plan) cells is = absurd (cc)
rows_there None («Type» request) cells is = absurd (cc)
rows_there None (commands.Field name field) cells is = absurd (cc)
rows_there None (Save type row) cells is = absurd (cc)
rows_there None (Load type row) cells is = absurd (cc)
rows_there None (Remove type row) cells is = absurd (cc)
rows_there None (Plan query) cells is = absurd (cc)
rows_there None (Index request) cells is = absurd (cc)
rows_there None (Drop name) cells is = absurd (cc)
rows_there None (Disable name) cells is = absurd (cc)
rows_there None (WriteOnly name) cells is = absurd (cc)
rows_there None (Readable name) cells is = absurd (cc)
rows_there None (Build name (suc more)) cells is = absurd (cc)
rows_there None (State name) cells is = absurd (cc)
rows_there None (Aggregate name group) cells is = absurd (cc)
rows_there (Some store) (Query query) cells is = rows_of_query store query cells is
rows_there (Some store) (Execute plan) cells is = is.1
rows_there (Some store) (Plan query) cells is = absurd (no_plan store query cells is)
rows_there (Some store) («Type» request) cells is = absurd (no_call store done type_meaning (by_schema (add_type store.schema request)) cells (no_done cells) is)
rows_there (Some store) (commands.Field name field) cells is = absurd (no_call store done field_meaning (by_schema (add_field store.schema name field)) cells (no_done cells) is)
rows_there (Some store) (Save type row) cells is = absurd (no_call store reply_to_save save_meaning (by_schema (record_of store.schema type row)) cells (no_save cells) is)
rows_there (Some store) (Load type row) cells is = absurd (no_call store reply_to_load load_meaning (by_schema (key_of store.schema type row)) cells (no_load cells) is)
rows_there (Some store) (Remove type row) cells is = absurd (no_call store reply_to_remove remove_meaning (by_schema (key_of store.schema type row)) cells (no_remove cells) is)
rows_there (Some store) (Index request) cells is = absurd (no_call store reply.Indexed index_meaning (by_schema (new_index store.schema request)) cells (λ a no. cc) is)
rows_there (Some store) (Drop name) cells is = absurd (no_call store done drop_meaning (by_schema (index_number (find_index store.schema name))) cells (no_done cells) is)
rows_there (Some store) (Disable name) cells is = absurd (no_call store done (mark_meaning state.Disabled) (by_schema (index_number (find_index store.schema name))) cells (no_done cells) is)
rows_there (Some store) (WriteOnly name) cells is = absurd (no_call store done (mark_meaning state.WriteOnly) (by_schema (index_number (find_index store.schema name))) cells (no_done cells) is)
rows_there (Some store) (Readable name) cells is = absurd (no_call store done (λ (index : IndexDefinition). readable_meaning index.number) (write_only_named store.schema (listed_states store) name) cells (no_done cells) is)
rows_there (Some store) (Build name (suc more)) cells is = absurd (no_call store reply_to_build (step_meaning (suc more)) (write_only_named store.schema (listed_states store) name) cells (no_build cells) is)
rows_there (Some store) (State name) cells is = absurd (no_call store reply.State state_meaning (by_schema (index_number (find_index store.schema name))) cells (λ a no. cc) is)
rows_there (Some store) (Aggregate name group) cells is = absurd (no_call store reply.Total (total_meaning group) (totalled_index store.schema (listed_states store) group (find_index store.schema name)) cells (λ a no. cc) is)

answered : (serial : Serial) (command : Command) (answer : Reply) → (is_accepted answer ≡ true → IsReply serial command answer) → IsRightlyAnswered serial command answer
answered serial command (Rows cells) is = rows_there serial command cells (is refl)
answered serial command (reply.Begun version) is = tt
answered serial command reply.Done is = tt
answered serial command reply.SavedNew is = tt
answered serial command (reply.SavedOver cells) is = tt
answered serial command (reply.Found cells) is = tt
answered serial command reply.Absent is = tt
answered serial command reply.Removed is = tt
answered serial command (reply.Planned plan) is = tt
answered serial command (reply.Indexed of) is = tt
answered serial command (reply.State of) is = tt
answered serial command (reply.Total of) is = tt
answered serial command (reply.Built records range) is = tt
answered serial command reply.Finished is = tt
answered serial command (reply.Submitted version) is = tt
answered serial command reply.ReadOnly is = tt
answered serial command reply.Nothing is = tt
answered serial command (reply.Reported reports) is = tt
answered serial command (reply.Refused refusal) is = tt
answered serial command (reply.Corrupt key) is = tt
answered serial command reply.Stopped is = tt

-- attempts of which each accepted one has its reply are rightly answered
pub all_answered : (serial : Serial) (attempts : List Attempt) → IsSerialAt serial attempts → AreRightlyAnswered serial attempts
all_answered serial [] are = tt
all_answered serial (attempt ∷ attempts) are = (answered serial attempt.command attempt.reply are.0, all_answered (attempted serial attempt) attempts are.1)
