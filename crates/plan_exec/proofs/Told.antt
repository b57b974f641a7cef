-- What an open store tells of its indexes is so of each store that was opened so, and what a plan made from that does there.
use Rattle.std.specs.Prelude.{◌≡◌, ◌==◌, ◌||◌, ℕ, Bool, true, false, cond, List, [], ◌∷◌, map, Some, Result, Ok, Err, IfOk, All, refl}
use Rattle.std.proofs.Common.{ap, sym, ◌∙◌, subst}
use Rattle.std.proofs.lemmas.Bool.{eqb-true}
use Rattle.std.proofs.lemmas.Option.{same_Some}
use Rattle.metadata.specs.declared.index.IndexDefinition.{IndexDefinition}
use Rattle.metadata.specs.declared.index.State.{State}
use Rattle.metadata.specs.Index.{listed_state}
use Rattle.metadata.specs.Schema.{Schema, find_type}
use Rattle.metadata.proofs.StoredApart.{named_typed}
use Rattle.record_store.specs.Call.{IsOpenAs, Opened}
use Rattle.record_store.specs.Calls.{index_states}
use Rattle.record_store.specs.Holds.{has_number}
use Rattle.record_store.specs.Store.{Store, state_in}
use Rattle.record_store.proofs.Listed.{state_told}
use Rattle.query.specs.Query.{Query}
use Rattle.planner.specs.Asked.{AskedPlan}
use Rattle.planner.specs.Plan.{Plan}
use Rattle.planner.specs.Right.{IsRightFor, indexes_of}
use Rattle.planner.specs.Rules.{MayBeUsed}
use Rattle.planner.specs.View.{plan_of}
use Rattle.planner.proofs.Lists.{all_each, member_contained}
use Rattle.planner.proofs.Residual.{each_member}
use Rattle.plan_exec.specs.Planning.{AnswersQuery, ScansReadable}
use Rattle.plan_exec.specs.Scannable.{AreStatesOf}
use Rattle.plan_exec.proofs.Answers.{answers, itself, scannable}

-- what is told for a number is the state by those that are listed, of an index that is there
pub told_state : (states : List (ℕ × State)) (indexes : List IndexDefinition) (number : ℕ) (state : State) →
    listed_state (map (λ (index : IndexDefinition). (index.number, state_in states index.number)) indexes) number ≡ Some state → (has_number indexes number ≡ true) × (state_in states number ≡ state)
told_state states [] number state e = cc
told_state states (index ∷ indexes) number state e = by (index.number == number) refl (told_state states indexes number state) e
  where
    told : List (ℕ × State)
    told = map (λ (index : IndexDefinition). (index.number, state_in states index.number)) indexes

    by : (b : Bool) → (index.number == number) ≡ b → (listed_state told number ≡ Some state → (has_number indexes number ≡ true) × (state_in states number ≡ state)) →
        cond b (Some (state_in states index.number)) (listed_state told number) ≡ Some state → ((b || has_number indexes number) ≡ true) × (state_in states number ≡ state)
    by true same later h = (refl, ap (state_in states) (sym (eqb-true index.number number same)) ∙ same_Some (state_in states index.number) state h)
    by false other later h = later h

-- STATES: so what an open store tells are the states of a store that was opened so
pub states_told : (opened : Opened) (store : Store) → IsOpenAs opened store → AreStatesOf store (index_states opened)
states_told opened store as_opened number state e =
    let (there, is) = told_state opened.states opened.schema.indexes number state e in
    state_told opened store number as_opened (ap (λ (s : Schema). has_number s.indexes number) as_opened.schema ∙ there) ∙ is

-- the indexes that may be used by what is told may be scanned there
pub scans_readable : (opened : Opened) (plan : Plan) → All (MayBeUsed opened.schema (index_states opened) plan.definition) (indexes_of plan.root) → ScansReadable opened plan
scans_readable opened plan usable store i as_opened c =
    scannable store (index_states opened) plan.definition i (states_told opened store as_opened)
    (subst (λ schema. MayBeUsed schema (index_states opened) plan.definition i) (sym as_opened.schema)
    (each_member (MayBeUsed opened.schema (index_states opened) plan.definition)
    (all_each (MayBeUsed opened.schema (index_states opened) plan.definition) (indexes_of plan.root) usable) (member_contained i (indexes_of plan.root) c)))

-- and a plan that is right for a query and scans just such indexes answers it there
pub answers_query : (opened : Opened) (query : Query) (plan : Plan) → find_type opened.schema query.record_type ≡ Some plan.definition → IsRightFor query plan →
    All (MayBeUsed opened.schema (index_states opened) plan.definition) (indexes_of plan.root) → AnswersQuery opened query plan
answers_query opened query plan found right usable m store holds as_opened =
    answers opened.prefix m store query plan plan.definition holds right
    (named_typed store.schema query.record_type plan.definition holds.lawful.schema (subst (λ schema. find_type schema query.record_type ≡ Some plan.definition) (sym as_opened.schema) found))
    (itself plan.definition)
    (λ i c. scans_readable opened plan usable store i as_opened c)

-- ---- the planner's answer

module _ {E : Type 0} (opened : Opened) (r : Result AskedPlan E) where
  -- the plan, if there is one, scans only indexes that may be used by this schema and these states
  abbrev pub UsesOnly : Schema → List (ℕ × State) → Type 0
  UsesOnly schema states = IfOk r (λ p. All (MayBeUsed schema states (plan_of p).definition) (indexes_of (plan_of p).root))

  pub uses_only : (schema : Schema) (states : List (ℕ × State)) → schema ≡ opened.schema → states ≡ index_states opened → UsesOnly schema states → UsesOnly opened.schema (index_states opened)
  uses_only schema states own told uses = subst (λ w. UsesOnly opened.schema w) told (subst (λ w. UsesOnly w states) own uses)

pub plan_scans_readable : {E : Type 0} (opened : Opened) (r : Result AskedPlan E) → UsesOnly opened r opened.schema (index_states opened) → IfOk r (λ p. ScansReadable opened (plan_of p))
plan_scans_readable opened (Ok p) uses = scans_readable opened (plan_of p) uses
plan_scans_readable opened (Err error) uses = tt

pub plan_answers_query : {E : Type 0} (opened : Opened) (query : Query) (r : Result AskedPlan E) → IfOk r (λ p. find_type opened.schema query.record_type ≡ Some (plan_of p).definition) →
    IfOk r (λ p. IsRightFor query (plan_of p)) → UsesOnly opened r opened.schema (index_states opened) → IfOk r (λ p. AnswersQuery opened query (plan_of p))
plan_answers_query opened query (Ok p) found right uses = answers_query opened query (plan_of p) found right uses
plan_answers_query opened query (Err error) found right uses = tt
