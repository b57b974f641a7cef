-- Private: beneath the commands that execute plans, what executing a plan over an open store comes to as a reply, or an
-- error.
use Rattle.std.specs.Prelude.{◌≡◌, ℕ, List, Some, None, All, map, true, false}
use Rattle.kv_core.specs.Map.{Map}
use Rattle.kv_core.specs.Range.{KeyRange}
use Rattle.kv_core.specs.declared.change.CommitRequest.{CommitRequest}
use Rattle.kv_core.specs.declared.snapshot.ReadError.{ReadError}
use Rattle.metadata.specs.Record.{Record}
use Rattle.metadata.specs.Schema.{find_type}
use Rattle.record_store.specs.declared.error.StoreError.{StoreError}
use Rattle.record_store.specs.declared.error.StoreError.TheVariants as fault
use Rattle.record_store.specs.Call.{Opened}
use Rattle.record_store.specs.Calls.{index_states}
use Rattle.query.specs.declared.error.QueryError.{QueryError}
use Rattle.query.specs.declared.filter.Query as declared
use Rattle.query.specs.Checked.{query_refusal}
use Rattle.query.specs.View.{query_of}
use Rattle.planner.specs.Asked.{AskedPlan}
use Rattle.planner.specs.Planned.{planned}
use Rattle.planner.specs.Right.{indexes_of, is_served}
use Rattle.planner.specs.Rules.{MayBeUsed, usable}
use Rattle.planner.specs.View.{plan_of}
use Rattle.plan_exec.specs.Accepting.{IsNotAccepted}
use Rattle.plan_exec.specs.Executing.{IsExecuted, IsUnexecuted}
use Rattle.plan_exec.specs.declared.error.ExecError.TheVariants as execution
use Rattle.schedule.specs.declared.reply.Reply.{Reply}
use Rattle.schedule.specs.declared.reply.Reply.TheVariants.{Rows, Refused}
use Rattle.schedule.specs.declared.refusal.Refusal.TheVariants.{SortNotServed, OtherSchema, IndexNotReadable}
use Rattle.schedule.specs.Refusals.{of_query}

-- the reply has the cells of the plan's rows; or it tells why the store doesn't accept the plan, and nothing was read
pub data IsExecution (maps : ℕ → Map) (opened : Opened) (plan : AskedPlan) (answer : Reply)
    (old new : CommitRequest) : Type 0 where
  found :
      (rows : List Record) → answer ≡ Rows (map (λ r. r.cells) rows) → IsExecuted maps opened plan rows old new →
      IsExecution maps opened plan answer old new
  other_schema :
      answer ≡ Refused OtherSchema → IsNotAccepted opened (plan_of plan) execution.OtherSchema → new ≡ old →
      IsExecution maps opened plan answer old new
  unreadable :
      answer ≡ Refused IndexNotReadable → IsNotAccepted opened (plan_of plan) execution.IndexNotReadable →
      new ≡ old → IsExecution maps opened plan answer old new

-- the error is that with which the plan wasn't executed
abbrev pub IsNoExecution :
    (ℕ → Map) → (KeyRange → ℕ → ReadError → Type 0) → Opened → AskedPlan → StoreError → CommitRequest →
    CommitRequest → Type 0
IsNoExecution maps refuses opened plan (fault.Read error) old new =
    IsUnexecuted maps refuses opened plan (execution.Read error) old new
IsNoExecution maps refuses opened plan (fault.Corrupt key) old new =
    IsUnexecuted maps refuses opened plan (execution.Corrupt key) old new
IsNoExecution maps refuses opened plan fault.Memory old new =
    IsUnexecuted maps refuses opened plan execution.Memory old new
IsNoExecution maps refuses opened plan error old new = ⊥

-- the plan is the planner's for a query that isn't refused and whose sort is served
pub record IsPlanOf (opened : Opened) (query : declared.Query) (plan : AskedPlan) : Type 0 where
  pub unrefused : query_refusal opened.schema (query_of query) ≡ None
  pub served : is_served opened.schema (index_states opened) (query_of query) ≡ true
  pub asked : query_of plan.query ≡ query_of query
  pub typed : find_type opened.schema query.record_type ≡ Some plan.definition
  pub is :
      planned plan.definition (usable opened.schema (index_states opened) plan.definition) (query_of query)
      ≡ Some (plan_of plan).root
  pub uses : All (MayBeUsed opened.schema (index_states opened) plan.definition) (indexes_of (plan_of plan).root)

-- a query was refused, without a read; or its plan was executed
pub data IsQueried (maps : ℕ → Map) (opened : Opened) (query : declared.Query) (answer : Reply)
    (old new : CommitRequest) : Type 0 where
  bad :
      (error : QueryError) → query_refusal opened.schema (query_of query) ≡ Some error →
      answer ≡ Refused (of_query error) → new ≡ old → IsQueried maps opened query answer old new
  unserved :
      query_refusal opened.schema (query_of query) ≡ None →
      is_served opened.schema (index_states opened) (query_of query) ≡ false → answer ≡ Refused SortNotServed →
      new ≡ old → IsQueried maps opened query answer old new
  planned_so :
      (plan : AskedPlan) → IsPlanOf opened query plan → IsExecution maps opened plan answer old new →
      IsQueried maps opened query answer old new

-- memory ran out for the plan, without a read; or the plan wasn't executed
pub data IsUnqueried (maps : ℕ → Map) (refuses : KeyRange → ℕ → ReadError → Type 0) (opened : Opened)
    (query : declared.Query) (error : StoreError) (old new : CommitRequest) : Type 0 where
  unplanned : error ≡ fault.Memory → new ≡ old → IsUnqueried maps refuses opened query error old new
  unexecuted :
      (plan : AskedPlan) → IsPlanOf opened query plan → IsNoExecution maps refuses opened plan error old new →
      IsUnqueried maps refuses opened query error old new
