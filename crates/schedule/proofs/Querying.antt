-- What a query comes to: its refusal, or the execution of its plan.
use Rattle.std.proofs.Common.{◌≡◌, ℕ, Bool, false, List, [], ◌∷◌, map, refl, sym, ap, subst, ◌∙◌, Option, Some, None}
use Rattle.std.specs.Prelude.{option_and_then, option_map}
use Rattle.std.specs.List.{AllByRecursion}
use Rattle.std.proofs.lemmas.Option.{same_Some}
use Rattle.kv_core.specs.Range.{KeyRange}
use Rattle.kv_core.specs.Map.{Map}
use Rattle.kv_core.specs.declared.change.CommitRequest.{CommitRequest}
use Rattle.kv_core.specs.declared.snapshot.ReadError.{ReadError}
use Rattle.metadata.specs.declared.definition.TypeDefinition.{TypeDefinition}
use Rattle.metadata.specs.declared.index.IndexDefinition.{IndexDefinition}
use Rattle.metadata.specs.declared.index.State.TheVariants as states
use Rattle.metadata.specs.Index.{listed_state}
use Rattle.metadata.specs.Records.{of_type}
use Rattle.metadata.specs.Schema.{find_type}
use Rattle.record_store.specs.declared.error.StoreError.{StoreError}
use Rattle.record_store.specs.Call.{IsOpenAs, Opened}
use Rattle.record_store.specs.Calls.{index_states}
use Rattle.record_store.specs.Opening.{IsOpened}
use Rattle.record_store.specs.Store.{Store}
use Rattle.record_store.specs.Layout.{store_prefix}
use Rattle.query.specs.declared.error.QueryError.{QueryError}
use Rattle.query.specs.declared.filter.Query as declared
use Rattle.query.specs.Checked.{query_refusal}
use Rattle.query.specs.Query.{Allows, Query as Asked}
use Rattle.query.specs.View.{query_of}
use Rattle.planner.specs.Asked.{AskedPlan}
use Rattle.planner.specs.Right.{indexes_of, is_served}
use Rattle.planner.specs.Rules.{MayBeUsed}
use Rattle.planner.specs.View.{plan_of}
use Rattle.planner.proofs.Lists.{all_each}
use Rattle.plan_exec.specs.Accepting.{Accepts, IsReadableAt}
use Rattle.plan_exec.proofs.Accepted.{found_name}
use Rattle.plan_exec.proofs.Answers.{itself, readable_told}
use Rattle.plan_exec.proofs.Told.{told_state}
use Rattle.schedule.specs.declared.refusal.Refusal.{Refusal}
use Rattle.schedule.specs.declared.refusal.Refusal.TheVariants.{SortNotServed}
use Rattle.schedule.specs.declared.step.Command.TheVariants.{Query}
use Rattle.schedule.specs.declared.reply.Reply.{Reply}
use Rattle.schedule.specs.declared.reply.Reply.TheVariants as reply
use Rattle.schedule.specs.Executed.{query_steps, steps_damage, steps_for, steps_reading, unless_refused}
use Rattle.schedule.specs.Executions.{IsExecution, IsPlanOf, IsQueried, IsUnqueried, bad, found, other_schema, planned_so, unexecuted, unplanned, unreadable, unserved}
use Rattle.schedule.specs.Performed.{IsPerformed}
use Rattle.schedule.specs.Calls.{IsCommandRefused}
use Rattle.schedule.specs.Query.{IsQueryReply, IsRowsReply, Unrefused, states_of}
use Rattle.schedule.specs.Refusals.{of_query}
use Rattle.schedule.proofs.Executions as run
use Rattle.schedule.proofs.Executions.{Executes}
use Rattle.schedule.proofs.Outcomes.{answered_as, located}
use Rattle.schedule.proofs.Looking.{Looks, looked, looked_memory}
use Rattle.schedule.proofs.Plans.{there}
use Rattle.schedule.proofs.Reached.{told_refusal}
use Rattle.schedule.proofs.Stops.{at}

-- what decides about a query is the same at each store that was opened so
module _ (number : ℕ) (opened : Opened) (q : Asked) (store : Store) (same : IsOpenAs (at number opened) store) where
  refusal_there : {why : Option QueryError} → query_refusal opened.schema q ≡ why → query_refusal store.schema q ≡ why
  refusal_there is = ap (λ s. query_refusal s q) same.schema ∙ is

  served_there : {b : Bool} → is_served opened.schema (index_states opened) q ≡ b → is_served store.schema (states_of store) q ≡ b
  served_there is =
      (λ i. is_served (same.schema i) (sym (there (at number opened) store same) i) q) ∙ is

module _ (number : ℕ) (opened : Opened) (q : Asked) where
  -- a query that is refused reads nothing behind the opening
  refused_looks : (why : Refusal) → query_steps (at number opened) q ≡ None → ((store : Store) → IsOpenAs (at number opened) store → IsQueryReply store q (reply.Refused why)) → Looks number (at number opened) (Query q) (reply.Refused why)
  refused_looks why none replies = record {
    opens = refl;
    reads = ap (steps_reading (at number opened)) none;
    undamaged = λ m. ap (λ s. steps_damage (at number opened) s m) none;
    looking = refl;
    told = λ m sound. told_refusal number (Some (at number opened)) (Query q) why m sound;
    replies = replies;
    idle = λ m store same. refl;
    leaves = λ store same. refl;
  }

  bad_looks : (error : QueryError) → query_refusal opened.schema q ≡ Some error → Looks number (at number opened) (Query q) (reply.Refused (of_query error))
  bad_looks error is =
      refused_looks (of_query error)
      (ap (λ why. unless_refused why (is_served opened.schema (index_states (at number opened)) q) (option_and_then (steps_for (at number opened) q) (find_type opened.schema q.record_type))) is)
      (λ store same. subst (λ why. Unrefused why (is_served store.schema (states_of store) q) (IsRowsReply store q) (reply.Refused (of_query error))) (sym (refusal_there number opened q store same is)) refl)

  unserved_looks : query_refusal opened.schema q ≡ None → is_served opened.schema (index_states opened) q ≡ false → Looks number (at number opened) (Query q) (reply.Refused SortNotServed)
  unserved_looks none not =
      refused_looks SortNotServed
      (λ i. unless_refused (none i) (not i) (option_and_then (steps_for (at number opened) q) (find_type opened.schema q.record_type)))
      (λ store same.
      subst (λ why. Unrefused why (is_served store.schema (states_of store) q) (IsRowsReply store q) (reply.Refused SortNotServed)) (sym (refusal_there number opened q store same none))
      (subst (λ b. Unrefused None b (IsRowsReply store q) (reply.Refused SortNotServed)) (sym (served_there number opened q store same not)) refl))

-- an index that may be used by what was opened is readable there
each_readable : (opened : Opened) (t : TypeDefinition) (is : List IndexDefinition) → AllByRecursion (MayBeUsed opened.schema (index_states opened) t) is → AllByRecursion (IsReadableAt opened) is
each_readable opened t [] all = tt
each_readable opened t (i ∷ is) all =
    let state = readable_told (listed_state (index_states opened) i.number) all.0.readable in
    (record { there = all.0.in_schema; readable = (told_state opened.states opened.schema.indexes i.number states.Readable state).1 }, each_readable opened t is all.1)

module _ (number : ℕ) (opened : Opened) (query : declared.Query) (plan : AskedPlan) (is_plan : IsPlanOf (at number opened) query plan) where
  -- the type of the plan is the one that the query names, and its name
  own_name : plan.definition.name ≡ (query_of query).record_type
  own_name = found_name (query_of query).record_type opened.schema.types plan.definition is_plan.typed

  own_type : find_type opened.schema plan.definition.name ≡ Some plan.definition
  own_type = ap (find_type opened.schema) own_name ∙ is_plan.typed

  -- the store accepts the plan
  plan_accepted : Accepts (at number opened) (plan_of plan) plan.definition
  plan_accepted = record {
    has_type = record { named = own_type; extends = itself plan.definition };
    has_indexes = each_readable (at number opened) plan.definition (indexes_of (plan_of plan).root) (all_each (MayBeUsed opened.schema (index_states (at number opened)) plan.definition) (indexes_of (plan_of plan).root) is_plan.uses);
  }

  steps : query_steps (at number opened) (query_of query) ≡ Some (plan.definition, (plan_of plan).root)
  steps =
      (λ i. unless_refused (is_plan.unrefused i) (is_plan.served i) (option_and_then (steps_for (at number opened) (query_of query)) (is_plan.typed i)))
      ∙ ap (option_map (λ root. (plan.definition, root))) is_plan.is

  own_executes : Executes number (at number opened) (Query (query_of query)) plan plan.definition
  own_executes = record {
    opens = refl;
    reads = ap (steps_reading (at number opened)) steps;
    damage = λ m. ap (λ s. steps_damage (at number opened) s m) steps;
    idle = λ m store. refl;
    leaves = λ store. refl;
    replies = λ store same rows allowed.
        subst (λ why. Unrefused why (is_served store.schema (states_of store) (query_of query)) (IsRowsReply store (query_of query)) (reply.Rows (map (λ r. r.cells) rows))) (sym (refusal_there number opened (query_of query) store same is_plan.unrefused))
        (subst (λ b. Unrefused None b (IsRowsReply store (query_of query)) (reply.Rows (map (λ r. r.cells) rows))) (sym (served_there number opened (query_of query) store same is_plan.served)) (record {
          type = plan.definition;
          named = ap (λ s. find_type s (query_of query).record_type) same.schema ∙ is_plan.typed;
          rows = rows;
          allowed = subst (λ q. Allows q (of_type plan.definition.number store.records) rows) is_plan.asked allowed;
          shown = refl;
        }));
  }

  pub query_executes : (t : TypeDefinition) → Accepts (at number opened) (plan_of plan) t → Executes number (at number opened) (Query (query_of query)) plan t
  query_executes t accepted = subst (Executes number (at number opened) (Query (query_of query)) plan) (same_Some plan.definition t (sym own_type ∙ accepted.has_type.named)) own_executes

-- what was opened stands at the store's prefix
plan_at : (number : ℕ) (opened : Opened) (query : declared.Query) (plan : AskedPlan) → opened.prefix ≡ store_prefix number → IsPlanOf opened query plan → IsPlanOf (at number opened) query plan
plan_at number opened query plan here is = subst (λ o. IsPlanOf o query plan) (located number opened here) is

-- QUERY: the command, by what the query came to
pub query_performed : (number : ℕ) {maps : ℕ → Map} {refuses : KeyRange → ReadError → Type 0} {old mid new : CommitRequest} (opened : Opened) (query : declared.Query) (answer : Reply) → opened.prefix ≡ store_prefix number →
    IsOpened maps opened old mid → IsQueried maps opened query answer mid new → IsPerformed number maps refuses (Query (query_of query)) answer old new
query_performed number {maps = maps} {refuses = refuses} {old = old} opened query answer here is_opened (bad error is same unread) =
    subst (λ t. IsPerformed number maps refuses (Query (query_of query)) answer old t) (sym unread) (answered_as number same (looked number opened (Query (query_of query)) _ here (bad_looks number opened (query_of query) error is) is_opened))
query_performed number {maps = maps} {refuses = refuses} {old = old} opened query answer here is_opened (unserved none not same unread) =
    subst (λ t. IsPerformed number maps refuses (Query (query_of query)) answer old t) (sym unread) (answered_as number same (looked number opened (Query (query_of query)) _ here (unserved_looks number opened (query_of query) none not) is_opened))
query_performed number {maps = maps} {refuses = refuses} {old = old} {mid = mid} {new = new} opened query answer here is_opened (planned_so plan is_plan execution) = by_execution execution
  where
    this : IsPlanOf (at number opened) query plan
    this = plan_at number opened query plan here is_plan

    accepted : Accepts opened (plan_of plan) plan.definition
    accepted = subst (λ o. Accepts o (plan_of plan) plan.definition) (sym (located number opened here)) (plan_accepted number opened query plan this)

    by_execution : IsExecution maps opened plan answer mid new → IsPerformed number maps refuses (Query (query_of query)) answer old new
    by_execution (found rows same is) = answered_as number same (run.executed number opened (Query (query_of query)) plan here (query_executes number opened query plan this) is_opened rows is)
    by_execution (other_schema same not unread) = absurd (not plan.definition accepted.has_type)
    by_execution (unreadable same not unread) = absurd (not.1 accepted.has_indexes)

-- NOT ANSWERED
pub query_refused : (number : ℕ) {maps : ℕ → Map} {refuses : KeyRange → ℕ → ReadError → Type 0} {old mid new : CommitRequest} (opened : Opened) (query : declared.Query) (error : StoreError) → opened.prefix ≡ store_prefix number →
    IsOpened maps opened old mid → IsUnqueried maps refuses opened query error mid new → IsCommandRefused number maps refuses (Query (query_of query)) error old new
query_refused number {maps = maps} {refuses = refuses} {old = old} {mid = mid} opened query error here is_opened (unplanned memory unread) =
    subst (λ t. IsCommandRefused number maps refuses (Query (query_of query)) error old t) (sym unread) (subst (λ e. IsCommandRefused number maps refuses (Query (query_of query)) e old mid) (sym memory) (looked_memory number opened (Query (query_of query)) here refl is_opened))
query_refused number opened query error here is_opened (unexecuted plan is_plan failed) =
    run.unexecuted number opened (Query (query_of query)) plan here (query_executes number opened query plan (plan_at number opened query plan here is_plan)) is_opened error failed
