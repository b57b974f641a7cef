-- Queries in a session.
use Rattle.std.proofs.Common.{◌≡◌, ℕ, List, [], ◌∷◌, Some, sym, ap, subst, ◌∙◌}
use Rattle.std.specs.Prelude.{Result, Ok, Err, IfOk, IfErr}
use Rattle.std.specs.List.{AllByRecursion}
use Rattle.std.proofs.lemmas.Option.{same_Some}
use Rattle.kv_core.specs.Map.{Map}
use Rattle.kv_core.specs.declared.change.CommitRequest.{CommitRequest}
use Rattle.txn.proofs.Running.{ran_because}
use Rattle.metadata.specs.declared.definition.TypeDefinition.{TypeDefinition}
use Rattle.metadata.specs.declared.index.IndexDefinition.{IndexDefinition}
use Rattle.metadata.specs.declared.index.State.TheVariants as states
use Rattle.metadata.specs.Index.{listed_state}
use Rattle.metadata.specs.Record.{Record}
use Rattle.metadata.specs.Records.{of_type}
use Rattle.metadata.specs.Schema.{find_type}
use Rattle.record_store.specs.Call.{AtStore, Opened}
use Rattle.record_store.specs.Calls.{index_states}
use Rattle.record_store.specs.Steps.{DidRead}
use Rattle.query.specs.Query.{Allows, Query as Asked}
use Rattle.query.specs.View.{query_of}
use Rattle.query.specs.declared.filter.Query.{Query}
use Rattle.planner.specs.Asked.{AskedPlan}
use Rattle.planner.specs.Right.{indexes_of}
use Rattle.planner.specs.Rules.{MayBeUsed}
use Rattle.planner.specs.View.{plan_of}
use Rattle.planner.proofs.Lists.{all_each}
use Rattle.plan_exec.specs.Accepting.{Accepts, IsReadableAt}
use Rattle.plan_exec.specs.Executing.{IsExecuted}
use Rattle.plan_exec.specs.declared.error.ExecError.TheVariants as execution
use Rattle.plan_exec.proofs.Accepted.{found_name}
use Rattle.plan_exec.proofs.Answers.{itself, readable_told}
use Rattle.plan_exec.proofs.Told.{told_state}
use Rattle.record_layer.specs.declared.error.Error.{Error}
use Rattle.record_layer.specs.declared.error.Error.TheVariants as errors
use Rattle.record_layer.specs.Sessions.{AreAnswersIn, IsExecutedIn, IsFoundIn, IsPlanIn, IsUnexecutedIn, IsUnfoundIn, SessionView}

-- an index that may be used by what was opened is readable there
each_readable : (store : Opened) (t : TypeDefinition) (is : List IndexDefinition) → AllByRecursion (MayBeUsed store.schema (index_states store) t) is → AllByRecursion (IsReadableAt store) is
each_readable store t [] all = tt
each_readable store t (i ∷ is) all =
    let state = readable_told (listed_state (index_states store) i.number) all.0.readable in
    (record { there = all.0.in_schema; readable = (told_state store.states store.schema.indexes i.number states.Readable state).1 }, each_readable store t is all.1)

module _ (query : Query) (plan : AskedPlan) (store : Opened) (is : IsPlanIn query plan store) where
  -- the type of the plan is the one that the query names
  own_type : find_type store.schema plan.definition.name ≡ Some plan.definition
  own_type = ap (find_type store.schema) (found_name query.record_type store.schema.types plan.definition is.typed) ∙ is.typed

  -- the store accepts the plan
  accepted_in : Accepts store (plan_of plan) plan.definition
  accepted_in = record {
    has_type = record { named = own_type; extends = itself plan.definition };
    has_indexes = each_readable store plan.definition (indexes_of (plan_of plan).root) (all_each (MayBeUsed store.schema (index_states store) plan.definition) (indexes_of (plan_of plan).root) is.uses);
  }

  -- what its execution found answers the query
  answers_by : {maps : ℕ → Map} {old new : CommitRequest} (rows : List Record) (done : IsExecuted maps store plan rows old new) →
      DidRead maps done.added old new (λ m. AtStore store m (λ at. Allows (query_of query) (of_type plan.definition.number at.records) rows))
  answers_by rows done = ran_because done.ran (λ m has at holds as_opened.
      subst (λ (t : TypeDefinition). Allows (query_of query) (of_type t.number at.records) rows) (same_Some done.type plan.definition (sym done.accepted.has_type.named ∙ own_type))
      (subst (λ (q : Asked). Allows q (of_type done.type.number at.records) rows) is.asked (has.answers at holds as_opened)))

module _ (query : Query) (plan : AskedPlan) (old new : SessionView) (is : IsPlanIn query plan old.store) where
  pub answers_in : (result : Result (List Record) Error) → IfOk result (λ rows. IsExecutedIn plan rows old new) → IfOk result (λ rows. AreAnswersIn query rows old new)
  answers_in (Ok rows) executed = record {
    type = plan.definition;
    named = is.typed;
    added = executed.1.added;
    ran = answers_by query plan old.store is rows executed.1;
  }
  answers_in (Err error) executed = tt

  pub found_in : (result : Result (List Record) Error) → IfOk result (λ rows. IsExecutedIn plan rows old new) → IfOk result (λ rows. IsFoundIn query rows old new)
  found_in (Ok rows) executed = (plan, is, executed)
  found_in (Err error) executed = tt

  unfound_by : (error : Error) → IsUnexecutedIn plan error old new → IsUnfoundIn query error old new
  unfound_by (errors.Execution execution.OtherSchema) refused = refused.1.0 plan.definition (accepted_in query plan old.store is).has_type
  unfound_by (errors.Execution execution.IndexNotReadable) refused = refused.1.0.1 (accepted_in query plan old.store is).has_indexes
  unfound_by (errors.Execution (execution.Read error)) refused = (plan, is, refused)
  unfound_by (errors.Execution (execution.Corrupt key)) refused = (plan, is, refused)
  unfound_by (errors.Execution execution.Memory) refused = (plan, is, refused)
  unfound_by (errors.Config error) refused = absurd refused
  unfound_by (errors.Schema error) refused = absurd refused
  unfound_by (errors.Store error) refused = absurd refused
  unfound_by (errors.Query error) refused = absurd refused
  unfound_by (errors.Plan error) refused = absurd refused
  unfound_by (errors.Commit error) refused = absurd refused
  unfound_by (errors.Open error) refused = absurd refused
  unfound_by (errors.Command error) refused = absurd refused
  unfound_by (errors.Ended error) refused = absurd refused
  unfound_by (errors.Run error) refused = absurd refused
  unfound_by (errors.Output error) refused = absurd refused
  unfound_by errors.Memory refused = absurd refused

  pub unfound_in : (result : Result (List Record) Error) → IfErr result (λ error. IsUnexecutedIn plan error old new) → IfErr result (λ error. IsUnfoundIn query error old new)
  unfound_in (Ok rows) refused = tt
  unfound_in (Err error) refused = unfound_by error refused
