-- Which plan a file asks for, and why there is none.
use Rattle.std.specs.Prelude.{◌≡◌, ℕ, Bool, is_some, List, Option, Some, None, Ok, Err, if◌then◌else◌, find, map}
use Rattle.std.specs.Prelude.{bytes_eq, option_map}
use Rattle.std.specs.List.{list_all}
use Rattle.std.specs.Option.{option_map_or, option_or}
use Rattle.metadata.specs.Asked.{schema_asked}
use Rattle.metadata.specs.Schema.{Schema, find_index, find_type}
use Rattle.metadata.specs.declared.index.IndexDefinition.{IndexDefinition}
use Rattle.metadata.specs.declared.index.State.{State}
use Rattle.metadata.specs.declared.index.State.TheVariants.{Readable}
use Rattle.query.specs.Checked.{query_refusal}
use Rattle.query.specs.Query.{Query}
use Rattle.query.specs.View.{query_of}
use Rattle.planner.specs.Asked.{AskedPlan}
use Rattle.planner.specs.Planned.{planned}
use Rattle.planner.specs.Right.{is_served}
use Rattle.planner.specs.Rules.{usable}
use Rattle.planner.specs.View.{plan_of}
use Rattle.explain.specs.File.{Asked, plan_request_of}
use Rattle.explain.specs.declared.error.ExplainError.{ExplainError}
use Rattle.explain.specs.declared.error.ExplainError.TheVariants.{BadForm, BadSchema, UnknownIndex, BadQuery}
use Rattle.explain.specs.declared.error.ExplainError.TheVariants.{SortNotServed}
use Rattle.explain.specs.declared.file.NamedState.{NamedState}

-- the first state given for the index of a name
abbrev pub first_given : List NamedState → List ℕ → Option NamedState
first_given states name = find (λ given. bytes_eq given.name name) states

-- the state of the index of a name: the first one given, or else readable
abbrev pub given_state : List NamedState → List ℕ → State
given_state states name = option_map_or (λ given. given.state) (first_given states name) Readable

-- one state for each index
abbrev pub asked_states : List NamedState → List IndexDefinition → List (ℕ × State)
asked_states states indexes = map (λ index. (index.number, given_state states index.name)) indexes

-- whether a state is given for an index of the schema
abbrev pub is_state_of_index : Schema → NamedState → Bool
is_state_of_index schema given = is_some (find_index schema given.name)

-- why a query has no plan under a schema and given states: a state is given for no index, the query is refused, or its
-- sort isn't served
abbrev pub refusal_under : Schema → List NamedState → Query → Option ExplainError
refusal_under schema states query =
    if list_all (is_state_of_index schema) states then
    option_or (option_map BadQuery (query_refusal schema query))
    (if is_served schema (asked_states states schema.indexes) query then None else Some SortNotServed)
    else Some UnknownIndex

-- why what is asked has no plan: its schema is refused, or else as under that schema
abbrev pub asked_refusal : Asked → Option ExplainError
asked_refusal asked =
    elim (schema_asked asked.schema) [
      | Err why ↦ Some (BadSchema why)
      | Ok schema ↦ refusal_under schema asked.states asked.query
    ]

-- why a text asks for no plan: it isn't of the form, or else as what it asks
abbrev pub text_refusal : List ℕ → Option ExplainError
text_refusal text = option_map_or asked_refusal (plan_request_of text) (Some BadForm)

-- the planner's plan of a query, under a schema and given states
pub record IsPlanUnder (schema : Schema) (states : List NamedState) (query : Query) (plan : AskedPlan) : Type 0 where
  pub allowed : refusal_under schema states query ≡ None
  pub typed : find_type schema query.record_type ≡ Some (plan_of plan).definition
  pub asked : query_of plan.query ≡ query
  pub is :
      planned (plan_of plan).definition
      (usable schema (asked_states states schema.indexes) (plan_of plan).definition) query ≡ Some (plan_of plan).root

-- the plan of what is asked: under the schema that is asked for
pub record IsPlanAsked (asked : Asked) (plan : AskedPlan) : Type 0 where
  pub schema : Schema
  pub made : schema_asked asked.schema ≡ Ok schema
  pub under : IsPlanUnder schema asked.states asked.query plan

-- the plan that a text asks for
pub record IsPlanAskedBy (text : List ℕ) (plan : AskedPlan) : Type 0 where
  pub asked : Asked
  pub read : plan_request_of text ≡ Some asked
  pub plan_of_asked : IsPlanAsked asked plan
