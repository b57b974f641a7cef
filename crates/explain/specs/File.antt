-- What a file asks a plan for.
use Rattle.std.specs.Prelude.{ℕ, List, [], ◌∷◌, codes, Option, Some, None, if◌then◌else◌, option_map, option_and_then}
use Rattle.std.specs.Option.{option_map_or}
use Rattle.serde_json.specs.Data.{Data, Members, no_members, member}
use Rattle.serde_json.specs.Find.{as_object, as_str, get}
use Rattle.metadata.specs.Asked.{SchemaRequest}
use Rattle.metadata.specs.declared.index.State.{State}
use Rattle.metadata.specs.declared.index.State.TheVariants.{Readable, WriteOnly, Disabled}
use Rattle.query.specs.Query.{Query}
use Rattle.query.specs.View.{query_of}
use Rattle.json_forms.specs.Json.{has_only, member_in, named, value_in}
use Rattle.json_forms.specs.QueryJson.{query_in}
use Rattle.json_forms.specs.SchemaJson.{json_schema}
use Rattle.explain.specs.declared.file.NamedState.{NamedState}
use Rattle.explain.specs.declared.file.PlanRequest.{PlanRequest}

-- the state of this name
abbrev pub state_of_name : List ℕ → Option State
state_of_name name =
    named ((codes "readable", Readable) ∷ (codes "write-only", WriteOnly) ∷ (codes "disabled", Disabled) ∷ []) name

-- the state that a text names
abbrev pub named_state_in : Data → Option State
named_state_in d = option_and_then state_of_name (as_str d)

-- the states beside the names of indexes
abbrev pub states_beside : Members → Option (List NamedState)
states_beside no_members = Some []
states_beside (member name d ms) =
    option_and_then (λ state. option_map (λ more. record { name = name; state = state } ∷ more) (states_beside ms))
    (named_state_in d)

-- the states that an object gives
abbrev pub given_states : Data → Option (List NamedState)
given_states d = option_and_then states_beside (as_object d)

-- the states that a file gives, none where it has no object of them
abbrev pub states_in : Data → Option (List NamedState)
states_in file = option_map_or given_states (get (codes "states") file) (Some [])

-- a schema, the states of some of its indexes, and a query
pub record Asked : Type 0 where
  pub schema : SchemaRequest
  pub states : List NamedState
  pub query : Query

-- Private: the program's value
abbrev pub asked_plan : PlanRequest → Asked
asked_plan r = record { schema = r.schema; states = r.states.items; query = query_of r.query }

-- the keys that a file may have
abbrev pub file_keys : List (List ℕ)
file_keys = codes "schema" ∷ codes "states" ∷ codes "query" ∷ []

-- what a value asks a plan for
abbrev pub plan_request_in : Data → Option Asked
plan_request_in file =
    if has_only file_keys file then
    option_and_then (λ schema. option_and_then (λ states.
    option_map (λ query. record { schema = schema; states = states; query = query })
    (member_in query_in (codes "query") file)) (states_in file)) (member_in json_schema (codes "schema") file)
    else None

-- what a text of JSON asks a plan for
abbrev pub plan_request_of : List ℕ → Option Asked
plan_request_of text = option_and_then plan_request_in (value_in text)
