-- What the reply to a query is, and that to the execution of a plan. No key of a database occurs.
use Rattle.std.specs.Prelude.{◌≡◌, ℕ, Bool, true, false, List, [], Option, Some, None, map}
use Rattle.metadata.specs.declared.cells.Cell.{Cell}
use Rattle.metadata.specs.declared.definition.TypeDefinition.{TypeDefinition}
use Rattle.metadata.specs.declared.index.State.{State}
use Rattle.metadata.specs.Record.{Record}
use Rattle.metadata.specs.Records.{of_type}
use Rattle.metadata.specs.Schema.{find_type}
use Rattle.record_store.specs.Call.{Opened}
use Rattle.record_store.specs.Store.{Store, listed_states, state_of}
use Rattle.query.specs.declared.error.QueryError.{QueryError}
use Rattle.query.specs.Checked.{query_refusal}
use Rattle.query.specs.Query.{Query, Allows}
use Rattle.query.specs.View.{query_of}
use Rattle.planner.specs.Asked.{AskedPlan}
use Rattle.planner.specs.Right.{is_served}
use Rattle.planner.specs.View.{plan_of}
use Rattle.plan_exec.specs.Accepting.{Accepts, IsNotAccepted}
use Rattle.plan_exec.specs.declared.error.ExecError.TheVariants as execution
use Rattle.schedule.specs.declared.reply.Reply.{Reply}
use Rattle.schedule.specs.declared.reply.Reply.TheVariants.{Rows, Refused}
use Rattle.schedule.specs.declared.refusal.Refusal.TheVariants.{SortNotServed, OtherSchema, IndexNotReadable}
use Rattle.schedule.specs.Refusals.{of_query}

-- the number and the state of each index of a store
abbrev pub states_of : Store → List (ℕ × State)
states_of store = map (λ index. (index.number, state_of store index.number)) store.schema.indexes

-- the reply is the query's refusal by the schema, or that no path serves its sort; or else it is as stated
abbrev pub Unrefused : Option QueryError → Bool → (Reply → Type 0) → Reply → Type 0
Unrefused (Some error) served IsRight answer = answer ≡ Refused (of_query error)
Unrefused None false IsRight answer = answer ≡ Refused SortNotServed
Unrefused None true IsRight answer = IsRight answer

-- the cells are those of rows that answer the query over the store's records of its type
pub record AreRows (store : Store) (query : Query) (cells : List (List Cell)) : Type 0 where
  pub type : TypeDefinition
  pub named : find_type store.schema query.record_type ≡ Some type
  pub rows : List Record
  pub allowed : Allows query (of_type type.number store.records) rows
  pub shown : cells ≡ map (λ r. r.cells) rows

-- the reply is such rows
abbrev pub IsRowsReply : Store → Query → Reply → Type 0
IsRowsReply store query (Rows cells) = AreRows store query cells
IsRowsReply store query answer = ⊥

-- QUERY: the reply is the query's refusal, or that no path serves its sort, or rows that answer it
abbrev pub IsQueryReply : Store → Query → Reply → Type 0
IsQueryReply store query answer =
    Unrefused (query_refusal store.schema query) (is_served store.schema (states_of store) query)
    (IsRowsReply store query) answer

-- the store as it is opened under a prefix
abbrev pub opened_as : List ℕ → Store → Opened
opened_as prefix store = record { prefix = prefix; schema = store.schema; states = listed_states store }

-- EXECUTE: the reply is that the store hasn't the plan's type, or may not read one of its indexes, for which its prefix
-- doesn't matter; or it is rows that answer the plan's query
abbrev pub IsExecuteReply : Store → AskedPlan → Reply → Type 0
IsExecuteReply store plan (Rows cells) =
    ((type : TypeDefinition) × Accepts (opened_as [] store) (plan_of plan) type)
    × AreRows store (query_of plan.query) cells
IsExecuteReply store plan (Refused OtherSchema) =
    IsNotAccepted (opened_as [] store) (plan_of plan) execution.OtherSchema
IsExecuteReply store plan (Refused IndexNotReadable) =
    IsNotAccepted (opened_as [] store) (plan_of plan) execution.IndexNotReadable
IsExecuteReply store plan answer = ⊥
