-- What a script is.
use Rattle.std.specs.Prelude.{◌≡◌, ◌⊎◌, ℕ, ◌+◌, List, [], ◌∷◌, ◌++◌, length, codes}
use Rattle.std.specs.Prelude.{Option, Some, None, IsSome, MatchOption, if◌then◌else◌, option_and_then}
use Rattle.std.specs.Option.{unwrap_or}
use Rattle.cluster_core.specs.declared.answers.Config.{Config}
use Rattle.schedule.specs.declared.step.Step.{Step}
use Rattle.serde_json.specs.Data.{Data, member, no_members, object}
use Rattle.serde_json.specs.Find.{get}
use Rattle.script.specs.declared.error.ScriptError.{ScriptError}
use Rattle.script.specs.declared.error.ScriptError.TheVariants.{OutOfMemory, BadScript}
use Rattle.json_forms.specs.Config.{config_in}
use Rattle.json_forms.specs.Json.{each_in, has_only, list_in, value_in}
use Rattle.script.specs.Steps.{step_in}

-- the keys that a script may have
abbrev pub script_keys : List (List ℕ)
script_keys = codes "config" ∷ codes "steps" ∷ []

-- the steps of a script, each still as it is written
abbrev pub frame_in : Data → Option (List Data)
frame_in script = if has_only script_keys script then option_and_then list_in (get (codes "steps") script) else None

-- the configuration of a script: what its `config` stands for, or the empty object
abbrev pub script_config : Data → Option Config
script_config script = config_in (unwrap_or (get (codes "config") script) (object no_members))

-- Private: the script of these steps alone
abbrev pub steps_alone : Data → Data
steps_alone steps = object (member (codes "steps") steps no_members)

-- the configuration that a script's text stands for, where its frame is one
abbrev pub config_of : List ℕ → Option Config
config_of text =
    option_and_then (λ script. option_and_then (λ steps. script_config script) (frame_in script)) (value_in text)

-- the steps of a script's text, each still as it is written
abbrev pub script_in : List ℕ → Option (List Data)
script_in text = option_and_then frame_in (value_in text)

-- a text is a script of this configuration and these steps
pub record IsScript (text : List ℕ) (config : Config) (steps : List Step) : Type 0 where
  pub config_read : config_of text ≡ Some config
  pub steps_read : option_and_then (each_in step_in) (script_in text) ≡ Some steps

-- the step of this number, counted from 1, is the first that stands for no step
pub record IsFirstBadStep (items : List Data) (number : ℕ) : Type 0 where
  pub good : List Data
  pub bad : Data
  pub rest : List Data
  pub whole : items ≡ good ++ bad ∷ rest
  pub before : IsSome (each_in step_in good)
  pub none : step_in bad ≡ None
  pub place : number ≡ length good + 1

-- Private: an error says why the step of a number isn't read: no memory, or the value stands for no step
abbrev pub explains_step : Data → ℕ → ScriptError → Type 0
explains_step item number OutOfMemory = Unit {0}
explains_step item number (BadScript place) = (place ≡ number) × (step_in item ≡ None)

-- Private: an error says why steps aren't read: no memory, or the first bad step
abbrev pub explains_steps : List Data → ScriptError → Type 0
explains_steps items OutOfMemory = Unit {0}
explains_steps items (BadScript number) = IsFirstBadStep items number

-- an error says why a text is no script: no memory, no frame or no configuration (0), or else the first bad step
abbrev pub explains_script : List ℕ → ScriptError → Type 0
explains_script text OutOfMemory = Unit {0}
explains_script text (BadScript number) =
    ((number ≡ 0) × (config_of text ≡ None))
    ⊎ (IsSome (config_of text) × MatchOption (script_in text) ⊥ (λ items. IsFirstBadStep items number))
