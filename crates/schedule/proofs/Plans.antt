-- What the plan of a query replies, from what opening the store found.
use Rattle.std.proofs.Common.{◌≡◌, ℕ, Bool, true, false, List, [], ◌∷◌, map, refl, sym, ap, ◌∙◌, subst, Option, Some, None}
use Rattle.std.specs.List.{AllByRecursion}
use Rattle.metadata.specs.declared.index.IndexDefinition.{IndexDefinition}
use Rattle.kv_core.specs.Range.{KeyRange}
use Rattle.kv_core.specs.Map.{Map}
use Rattle.kv_core.specs.declared.change.CommitRequest.{CommitRequest}
use Rattle.kv_core.specs.declared.snapshot.ReadError.{ReadError}
use Rattle.metadata.specs.declared.index.State.{State}
use Rattle.metadata.specs.Schema.{Schema, find_type}
use Rattle.record_store.specs.Holds.{has_number}
use Rattle.record_store.specs.Store.{Store, state_in, state_of}
use Rattle.record_store.specs.Call.{IsOpenAs, Opened}
use Rattle.record_store.specs.Calls.{index_states}
use Rattle.record_store.specs.Opening.{IsOpened}
use Rattle.record_store.specs.Layout.{store_prefix}
use Rattle.record_store.proofs.Listed.{all_there, state_told}
use Rattle.query.specs.declared.error.QueryError.{QueryError}
use Rattle.query.specs.Checked.{query_refusal}
use Rattle.query.specs.Query.{Query}
use Rattle.query.specs.View.{query_of}
use Rattle.planner.specs.Asked.{AskedPlan}
use Rattle.planner.specs.Planned.{planned}
use Rattle.planner.specs.Rules.{usable}
use Rattle.planner.specs.View.{plan_of}
use Rattle.planner.specs.Right.{is_served}
use Rattle.schedule.specs.declared.refusal.Refusal.{Refusal}
use Rattle.schedule.specs.declared.refusal.Refusal.TheVariants.{SortNotServed}
use Rattle.schedule.specs.declared.step.Command.TheVariants.{Plan}
use Rattle.schedule.specs.declared.reply.Reply.{Reply}
use Rattle.schedule.specs.declared.reply.Reply.TheVariants as reply
use Rattle.schedule.specs.Planning.{IsPlanReply, IsPlanned}
use Rattle.schedule.specs.Query.{Unrefused, states_of}
use Rattle.schedule.specs.Performed.{IsCommandSound, IsPerformed, TellsOfPairs}
use Rattle.schedule.specs.Past.{tells_change}
use Rattle.schedule.specs.Refusals.{of_query}
use Rattle.schedule.proofs.Looking.{Looks, looked}
use Rattle.schedule.proofs.Reached.{told_accepted, told_refusal}
use Rattle.schedule.proofs.Stops.{at}

-- PLANNED: the planner's plan is the reply
pub plan_told : (schema : Schema) (states : List (ℕ × State)) (query : Query) (plan : AskedPlan) → query_refusal schema query ≡ None → is_served schema states query ≡ true → query_of plan.query ≡ query → find_type schema query.record_type ≡ Some plan.definition →
    planned plan.definition (usable schema states plan.definition) query ≡ Some (plan_of plan).root → IsPlanReply schema states query (reply.Planned plan)
plan_told schema states query plan none served asked typed is =
    subst (λ why. Unrefused why (is_served schema states query) (IsPlanned schema states query) (reply.Planned plan)) (sym none)
    (subst (λ b. Unrefused None b (IsPlanned schema states query) (reply.Planned plan)) (sym served) (record { plan = plan; shown = refl; asked = asked; typed = typed; is = is }))

-- what the reply to a plan tells, whatever is there
record IsLook (number : ℕ) (opened : Opened) (query : Query) (answer : Reply) : Type 0 where
  looking : tells_change answer ≡ false
  told : (m : Map) → IsCommandSound number (Some opened) (Plan query) answer m → TellsOfPairs number (Some opened) (Plan query) answer m

look_refused : (number : ℕ) (opened : Opened) (query : Query) (refusal : Refusal) (answer : Reply) → answer ≡ reply.Refused refusal → IsLook number opened query answer
look_refused number opened query refusal answer is = subst (IsLook number opened query) (sym is) (record { looking = refl; told = told_refusal number (Some opened) (Plan query) refusal })

look_planned : (number : ℕ) (opened : Opened) (query : Query) (answer : Reply) → IsPlanned opened.schema (index_states opened) query answer → IsLook number opened query answer
look_planned number opened query answer is = subst (IsLook number opened query) (sym is.shown) (record { looking = refl; told = λ m sound. told_accepted number (Some opened) (Plan query) (reply.Planned is.plan) m refl sound })

look : (number : ℕ) (opened : Opened) (query : Query) (answer : Reply) → IsPlanReply opened.schema (index_states opened) query answer → IsLook number opened query answer
look number opened query answer is = by_refusal (query_refusal opened.schema query) (is_served opened.schema (index_states opened) query) is
  where
    by_refusal : (why : Option QueryError) (served : Bool) → Unrefused why served (IsPlanned opened.schema (index_states opened) query) answer → IsLook number opened query answer
    by_refusal (Some error) served refused = look_refused number opened query (of_query error) answer refused
    by_refusal None true planned = look_planned number opened query answer planned
    by_refusal None false refused = look_refused number opened query SortNotServed answer refused

-- each store that was opened so has the schema and the states that were found
pub there : (opened : Opened) (store : Store) → IsOpenAs opened store → index_states opened ≡ states_of store
there opened store same = ap (λ (s : Schema). index_states (record { prefix = opened.prefix; schema = s; states = opened.states })) (sym same.schema) ∙ each store.schema.indexes (all_there store.schema.indexes)
  where
    each : (indexes : List IndexDefinition) → AllByRecursion (λ (i : IndexDefinition). has_number store.schema.indexes i.number ≡ true) indexes →
        map {B = ℕ × State} (λ (i : IndexDefinition). (i.number, state_in opened.states i.number)) indexes ≡ map {B = ℕ × State} (λ (i : IndexDefinition). (i.number, state_of store i.number)) indexes
    each [] known = refl
    each (index ∷ indexes) known = λ i. (index.number, sym (state_told opened store index.number same known.0) i) ∷ each indexes known.1 i

replies : (opened : Opened) (query : Query) (answer : Reply) (store : Store) → IsOpenAs opened store → IsPlanReply opened.schema (index_states opened) query answer → IsPlanReply store.schema (states_of store) query answer
replies opened query answer store same is = subst (λ states. IsPlanReply store.schema states query answer) (there opened store same) (subst (λ schema. IsPlanReply schema (index_states opened) query answer) (sym same.schema) is)

-- PLANNED: the reply by the schema and the states that opening found is the one that the plan of the query has
pub plan_performed : (number : ℕ) {maps : ℕ → Map} {refuses : KeyRange → ReadError → Type 0} {old new : CommitRequest} (opened : Opened) (query : Query) (answer : Reply) → opened.prefix ≡ store_prefix number →
    IsOpened maps opened old new → IsPlanReply opened.schema (index_states opened) query answer → IsPerformed number maps refuses (Plan query) answer old new
plan_performed number opened query answer here is_opened is = looked number opened (Plan query) answer here looks is_opened
  where
    tells : IsLook number (at number opened) query answer
    tells = look number (at number opened) query answer is

    looks : Looks number (at number opened) (Plan query) answer
    looks = record {
      opens = refl;
      undamaged = λ m. refl;
      reads = refl;
      looking = tells.looking;
      told = tells.told;
      replies = λ store same. replies (at number opened) query answer store same is;
      idle = λ m store same. refl;
      leaves = λ store same. refl;
    }
