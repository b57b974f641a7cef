-- What the serial store replies to a command, and the store after it. No key of a database and no packed byte occurs.
use Rattle.std.specs.Prelude.{◌≡◌, zero, Bool, true, false, List, [], ◌∷◌, Option, Some, None, Result, Ok, Err}
use Rattle.metadata.specs.declared.index.State.TheVariants.{Disabled, WriteOnly}
use Rattle.metadata.specs.declared.refusal.Refusal.{Refusal as SchemaRefusal}
use Rattle.schedule.specs.declared.refusal.Refusal.{Refusal}
use Rattle.schedule.specs.declared.refusal.Refusal.TheVariants.{AlreadyThere, BadLimit, NoStore}
use Rattle.schedule.specs.Refusals.{of_schema, reply_of}
use Rattle.metadata.specs.Schema.{Schema, find_index}
use Rattle.metadata.specs.Asked.{schema_asked}
use Rattle.metadata.specs.Change.{add_field, add_type}
use Rattle.metadata.specs.IndexChange.{new_index}
use Rattle.metadata.specs.Record.{Record, record_of, key_of}
use Rattle.schedule.specs.declared.step.Command.{Command}
use Rattle.schedule.specs.declared.step.Command.TheVariants.{Create, «Type», Save, Load, Remove}
use Rattle.schedule.specs.declared.step.Command.TheVariants.{Plan, Execute, Index, Drop, Disable, State}
use Rattle.schedule.specs.declared.step.Command.TheVariants.{Aggregate, Build, Readable}
use Rattle.schedule.specs.declared.step.Command.TheVariants as commands
use Rattle.schedule.specs.declared.reply.Reply.{Reply}
use Rattle.schedule.specs.declared.reply.Reply.TheVariants as reply
use Rattle.record_store.specs.declared.error.StoreError.{StoreError}
use Rattle.record_store.specs.Store.{Store, Serial, created, listed_states}
use Rattle.record_store.specs.Meaning.{Meaning, by_schema, drop_meaning, index_meaning, index_number, load_meaning}
use Rattle.record_store.specs.Meaning.{mark_meaning, readable_meaning, remove_meaning, save_meaning, state_meaning}
use Rattle.record_store.specs.Meaning.{field_meaning, total_meaning, totalled_index, type_meaning, write_only_named}
use Rattle.online_builder.specs.declared.progress.Progress.{Progress}
use Rattle.online_builder.specs.declared.progress.Progress.TheVariants as progress
use Rattle.online_builder.specs.Stepping.{step_meaning}
use Rattle.planner.specs.Asked.{AskedPlan}
use Rattle.query.specs.Query.{Query}
use Rattle.schedule.specs.Query.{IsExecuteReply, IsQueryReply, states_of}
use Rattle.schedule.specs.Planning.{IsPlanned, IsPlanReplyWith, IsSomePlan, PlanRelation}

-- what the serial store makes of a command: it is refused, with this reply; it has this reply, and this is there after
-- it; or it replies to a query, to its plan or to an execution, all of which leave what is there
pub data Line : Type 0 where
  Refuses : Option Reply → Line
  Replies : Reply → Serial → Line
  Queries : Store → Query → Line
  Plans : Store → Query → Line
  Executes : Store → AskedPlan → Line

abbrev pub refuses : Refusal → Line
refuses refusal = Refuses (Some (reply.Refused refusal))

-- the line of a call at a store: by what it means, with what it answers or is refused for, and the reply to an answer
abbrev pub answering : {A : Type 0} → Store → (A → Reply) → Meaning A → Result A StoreError → Line
answering store told meaning (Ok answer) = Replies (told answer) (Some (meaning.after store))
answering store told meaning (Err error) = Refuses (reply_of error)

-- the same by what it asks for, or is refused for before
abbrev pub calling : {K A : Type 0} → Store → (A → Reply) → (K → Meaning A) → Result K StoreError → Line
calling store told meaning (Ok value) = answering store told (meaning value) ((meaning value).answer store)
calling store told meaning (Err error) = Refuses (reply_of error)

-- what calls reply by their answers: whatever it is; by the record that was there; by whether one was
abbrev pub done : {A : Type 0} → A → Reply
done answer = reply.Done

abbrev pub reply_to_save : Option Record → Reply
reply_to_save None = reply.SavedNew
reply_to_save (Some old) = reply.SavedOver old.cells

abbrev pub reply_to_load : Option Record → Reply
reply_to_load None = reply.Absent
reply_to_load (Some found) = reply.Found found.cells

abbrev pub reply_to_remove : Bool → Reply
reply_to_remove true = reply.Removed
reply_to_remove false = reply.Absent

abbrev pub reply_to_build : Progress → Reply
reply_to_build (progress.Built records range) = reply.Built records range
reply_to_build progress.Finished = reply.Finished

-- a command on a store, by the call that it makes, with the reply to its answer
abbrev pub line_in : Store → Command → Line
line_in store (Create request) = refuses AlreadyThere
line_in store («Type» request) = calling store done type_meaning (by_schema (add_type store.schema request))
line_in store (commands.Field name field) =
    calling store done field_meaning (by_schema (add_field store.schema name field))
line_in store (Save type cells) =
    calling store reply_to_save save_meaning (by_schema (record_of store.schema type cells))
line_in store (Load type cells) = calling store reply_to_load load_meaning (by_schema (key_of store.schema type cells))
line_in store (Remove type cells) =
    calling store reply_to_remove remove_meaning (by_schema (key_of store.schema type cells))
line_in store (commands.Query query) = Queries store query
line_in store (Plan query) = Plans store query
line_in store (Execute plan) = Executes store plan
line_in store (Index request) = calling store reply.Indexed index_meaning (by_schema (new_index store.schema request))
line_in store (Drop name) =
    calling store done drop_meaning (by_schema (index_number (find_index store.schema name)))
line_in store (Disable name) =
    calling store done (mark_meaning Disabled) (by_schema (index_number (find_index store.schema name)))
line_in store (commands.WriteOnly name) =
    calling store done (mark_meaning WriteOnly) (by_schema (index_number (find_index store.schema name)))
line_in store (Readable name) =
    calling store done (λ index. readable_meaning index.number)
    (write_only_named store.schema (listed_states store) name)
line_in store (Build name limit) =
    calling store reply_to_build (step_meaning limit) (write_only_named store.schema (listed_states store) name)
line_in store (State name) =
    calling store reply.State state_meaning (by_schema (index_number (find_index store.schema name)))
line_in store (Aggregate name group) =
    calling store reply.Total (total_meaning group)
    (totalled_index store.schema (listed_states store) group (find_index store.schema name))

-- a store is made where there is none, once its schema is accepted
abbrev pub creating : Serial → Result Schema SchemaRefusal → Line
creating serial (Err refusal) = refuses (of_schema refusal)
creating None (Ok schema) = Replies reply.Done (Some (created schema))
creating (Some store) (Ok schema) = refuses AlreadyThere

-- a command on what is there: a builder of no record is refused in any case, and else any other one wants a store
abbrev pub serial_line : Serial → Command → Line
serial_line serial (Create request) = creating serial (schema_asked request)
serial_line serial (Build name zero) = refuses BadLimit
serial_line None command = refuses NoStore
serial_line (Some store) command = line_in store command

-- the reply is the line's, or one of them; a plan that is shown is as stated
abbrev pub IsReplyWith : PlanRelation → Line → Reply → Type 0
IsReplyWith IsShown (Refuses refusal) answer = refusal ≡ Some answer
IsReplyWith IsShown (Replies told after) answer = answer ≡ told
IsReplyWith IsShown (Queries store query) answer = IsQueryReply store query answer
IsReplyWith IsShown (Plans store query) answer =
    IsPlanReplyWith IsShown store.schema (states_of store) query answer
IsReplyWith IsShown (Executes store plan) answer = IsExecuteReply store plan answer

-- so with the planner's plan
abbrev pub IsReplyOf : Line → Reply → Type 0
IsReplyOf line answer = IsReplyWith IsPlanned line answer

-- what the line leaves there
abbrev pub left_by : Serial → Line → Serial
left_by serial (Replies told after) = after
left_by serial other = serial

-- the reply is one that the serial store may give to the command: to a plan, any plan for the query
abbrev pub IsMeant : Serial → Command → Reply → Type 0
IsMeant serial command answer = IsReplyWith IsSomePlan (serial_line serial command) answer

-- the reply is one that the serial store gives to the command
abbrev pub IsReply : Serial → Command → Reply → Type 0
IsReply serial command answer = IsReplyOf (serial_line serial command) answer

-- what is there after a command, and after commands in turn
abbrev pub effect : Serial → Command → Serial
effect serial command = left_by serial (serial_line serial command)

abbrev pub effects : Serial → List Command → Serial
effects serial [] = serial
effects serial (command ∷ commands) = effects (effect serial command) commands
