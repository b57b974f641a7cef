-- Which texts nothing is wrong with.
use Rattle.std.specs.Prelude.{◌≡◌, ◌≤◌, ℕ, List, codes, Bool, ◌||◌, is_some, if◌then◌else◌, Some, None, IsNone}
use Rattle.std.specs.Prelude.{MatchOption}
use Rattle.cluster_core.specs.Configuration.{config_refusal}
use Rattle.cluster_core.specs.declared.answers.Config.{Config}
use Rattle.schedule.specs.declared.step.Step.{Step}
use Rattle.serde_json.specs.Data.{Data}
use Rattle.serde_json.specs.Find.{get}
use Rattle.json_forms.specs.Json.{value_in}
use Rattle.explain.specs.Planning.{text_refusal}
use Rattle.script.specs.Race.{race_of}
use Rattle.script.specs.Script.{IsScript}
use Rattle.script.specs.declared.race.Race.{Race}
use Rattle.script_check.specs.declared.file_form.FileForm.{FileForm}
use Rattle.script_check.specs.declared.file_form.FileForm.TheVariants as forms

-- the form of an object that has these keys
abbrev pub form_by : Bool → Bool → Bool → Bool → FileForm
form_by has_steps has_clients has_query has_schema =
    if has_steps then forms.Script
    else (if has_clients then forms.Race else (if has_query || has_schema then forms.Plan else forms.Script))

-- the form that a value is taken to have
abbrev pub file_form_in : Data → FileForm
file_form_in d =
    form_by (is_some (get (codes "steps") d)) (is_some (get (codes "clients") d)) (is_some (get (codes "query") d))
    (is_some (get (codes "schema") d))

-- a text is a script that can be run: there is a database of its configuration
pub record IsRunnable (text : List ℕ) : Type 0 where
  pub config : Config
  pub steps : List Step
  pub script : IsScript text config steps
  pub allowed : IsNone (config_refusal config)

-- a text is a race that can be run: there is a database of its configuration, with places enough
pub record IsGoodRace (text : List ℕ) : Type 0 where
  pub race : Race
  pub read : race_of text ≡ Some race
  pub places : 4 ≤ race.config.places
  pub allowed : IsNone (config_refusal race.config)

-- nothing is wrong with a text of a form
abbrev pub is_good_as : List ℕ → FileForm → Type 0
is_good_as text forms.Script = IsRunnable text
is_good_as text forms.Race = IsGoodRace text
is_good_as text forms.Plan = text_refusal text ≡ None

-- nothing is wrong with a text: it is one of the form that it is taken to have
abbrev pub IsGood : List ℕ → Type 0
IsGood text = MatchOption (value_in text) ⊥ (λ d. is_good_as text (file_form_in d))
