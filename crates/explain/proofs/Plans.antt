-- Plans under a schema and given states.
use Rattle.std.proofs.Common.{◌≡◌, ◌≢◌, ℕ, List, Some, None, Result, Ok, Err, IfOk, IfErr, IsTrue, refl, subst}
use Rattle.std.specs.List.{list_all}
use Rattle.metadata.specs.Asked.{schema_asked}
use Rattle.metadata.specs.Schema.{Schema, find_type}
use Rattle.metadata.specs.declared.index.State.{State}
use Rattle.query.specs.Checked.{query_refusal}
use Rattle.query.specs.Query.{Query}
use Rattle.planner.specs.Asked.{AskedPlan}
use Rattle.planner.specs.Planned.{planned}
use Rattle.planner.specs.Right.{is_served}
use Rattle.planner.specs.Rules.{usable}
use Rattle.planner.specs.View.{plan_of}
use Rattle.query.specs.View.{query_of}
use Rattle.explain.specs.File.{Asked}
use Rattle.explain.specs.Planning.{IsPlanAsked, IsPlanUnder, asked_refusal, asked_states, is_state_of_index}
use Rattle.explain.specs.Planning.{refusal_under}
use Rattle.explain.specs.declared.error.ExplainError.{ExplainError}
use Rattle.explain.specs.declared.error.ExplainError.TheVariants.{OutOfMemory}
use Rattle.explain.specs.declared.file.NamedState.{NamedState}

-- nothing is refused
pub allowed_under : (schema : Schema) (states : List NamedState) (query : Query) → IsTrue (list_all (is_state_of_index schema) states) → query_refusal schema query ≡ None
    → IsTrue (is_served schema (asked_states states schema.indexes) query) → refusal_under schema states query ≡ None
allowed_under schema states query known checked served = rw (known, checked, served) refl

-- the planner's plan from one state for each index
pub planned_under : (schema : Schema) (states : List NamedState) (query : Query) (plan : AskedPlan) (made : List (ℕ × State)) → made ≡ asked_states states schema.indexes
    → IsTrue (list_all (is_state_of_index schema) states) → query_refusal schema query ≡ None → IsTrue (is_served schema made query) → find_type schema query.record_type ≡ Some (plan_of plan).definition → query_of plan.query ≡ query
    → planned (plan_of plan).definition (usable schema made (plan_of plan).definition) query ≡ Some (plan_of plan).root → IsPlanUnder schema states query plan
planned_under schema states query plan made e known checked served typed asked is =
    record {
      allowed = allowed_under schema states query known checked (subst (λ w. IsTrue (is_served schema w query)) e served);
      typed = typed;
      asked = asked;
      is = subst (λ w. planned (plan_of plan).definition (usable schema w (plan_of plan).definition) query ≡ Some (plan_of plan).root) e is;
    }

-- what is so under the schema that is asked for is so of what is asked
pub planned_as_asked : {E : Type 0} (r : Result AskedPlan E) (asked : Asked) (schema : Schema) → schema_asked asked.schema ≡ Ok schema → IfOk r (IsPlanUnder schema asked.states asked.query) → IfOk r (IsPlanAsked asked)
planned_as_asked (Ok plan) asked schema made under = record { schema = schema; made = made; under = under }
planned_as_asked (Err error) asked schema made under = tt

pub refused_as_asked : {A : Type 0} (r : Result A ExplainError) (asked : Asked) (schema : Schema) → schema_asked asked.schema ≡ Ok schema
    → IfErr r (λ error. error ≢ OutOfMemory → refusal_under schema asked.states asked.query ≡ Some error) → IfErr r (λ error. error ≢ OutOfMemory → asked_refusal asked ≡ Some error)
refused_as_asked (Ok a) asked schema made h = tt
refused_as_asked (Err error) asked schema made h = λ other. rw (asked_refusal, made) (h other)
