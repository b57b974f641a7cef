-- What a race is.
use Rattle.std.specs.Prelude.{◌≡◌, ℕ, nat_le, if◌then◌else◌, List, [], ◌∷◌, codes, Option, Some, None}
use Rattle.std.specs.Prelude.{option_map, option_and_then}
use Rattle.serde_json.specs.Data.{Data}
use Rattle.serde_json.specs.Find.{as_str}
use Rattle.json_forms.specs.CellJson.{rows_in}
use Rattle.json_forms.specs.Json.{has_only, list_in, member_in, value_in}
use Rattle.json_forms.specs.SchemaJson.{json_index, json_schema}
use Rattle.script.specs.Script.{script_config}
use Rattle.script.specs.Steps.{limit_in}
use Rattle.script.specs.declared.error.ScriptError.{ScriptError}
use Rattle.script.specs.declared.error.ScriptError.TheVariants.{OutOfMemory, BadScript}
use Rattle.script.specs.declared.race.Race.{Race}
use Rattle.script.specs.declared.race.Racers.{Racers}

-- the keys that a race may have
abbrev pub race_keys : List (List ℕ)
race_keys =
    codes "config" ∷ codes "schema" ∷ codes "type" ∷ codes "before" ∷ codes "index" ∷ codes "limit"
    ∷ codes "clients" ∷ []

-- a limit of a builder, 1 at least
abbrev pub turn_limit_in : Data → Option ℕ
turn_limit_in d = option_and_then (λ limit. if nat_le 1 limit then Some limit else None) (limit_in d)

-- what two lists of rows stand for: the records of the first client and of the second
abbrev pub racers_of : List Data → Option Racers
racers_of (one ∷ other ∷ []) =
    option_and_then (λ first. option_map (λ second. record { first = first; second = second }) (rows_in other))
    (rows_in one)
racers_of parts = None

-- the records of exactly two clients
abbrev pub racers_in : Data → Option Racers
racers_in d = option_and_then racers_of (list_in d)

-- the race that an object stands for
abbrev pub race_in : Data → Option Race
race_in d =
    if has_only race_keys d then
    option_and_then (λ config. option_and_then (λ schema. option_and_then (λ record_type.
    option_and_then (λ before. option_and_then (λ index. option_and_then (λ limit. option_map (λ clients.
    record {
      config = config;
      schema = schema;
      record_type = record_type;
      before = before;
      index = index;
      limit = limit;
      clients = clients;
    })
    (member_in racers_in (codes "clients") d)) (member_in turn_limit_in (codes "limit") d))
    (member_in json_index (codes "index") d)) (member_in rows_in (codes "before") d))
    (member_in as_str (codes "type") d)) (member_in json_schema (codes "schema") d)) (script_config d)
    else None

-- the race that a text of JSON stands for
abbrev pub race_of : List ℕ → Option Race
race_of text = option_and_then race_in (value_in text)

-- an error says why a text is no race: no memory, or it stands for none
abbrev pub explains_race : List ℕ → ScriptError → Type 0
explains_race text OutOfMemory = Unit {0}
explains_race text (BadScript number) = (number ≡ 0) × (race_of text ≡ None)
