-- The step that JSON stands for.
use Rattle.std.specs.Prelude.{ℕ, ◌^◌, nat_lt, if◌then◌else◌, List, [], ◌∷◌, codes, Option, Some, None}
use Rattle.std.specs.Prelude.{option_map, option_and_then}
use Rattle.std.specs.Str.{bytes_eq}
use Rattle.schedule.specs.declared.step.Command.{Command}
use Rattle.schedule.specs.declared.step.Command.TheVariants as commands
use Rattle.schedule.specs.declared.step.Step.{Step}
use Rattle.schedule.specs.declared.step.Step.TheVariants.{Begin, Perform, Execute, Commit, Abandon, Resolve}
use Rattle.schedule.specs.declared.step.Step.TheVariants.{Log, Pull, Report, Lost, Settle}
use Rattle.serde_json.specs.Data.{Data}
use Rattle.serde_json.specs.Find.{as_str}
use Rattle.json_forms.specs.CellJson.{cells_in}
use Rattle.json_forms.specs.Json.{list_in, named, number_in}
use Rattle.json_forms.specs.QueryJson.{query_in}
use Rattle.json_forms.specs.SchemaJson.{json_field, json_index, json_schema, type_in}

-- the command of this name with one part
abbrev pub command_with : List ℕ → Data → Option Command
command_with name part =
    option_and_then (λ (reads : Data → Option Command). reads part)
    (named ((codes "create", λ d. option_map commands.Create (json_schema d))
    ∷ (codes "type", λ d. option_map commands.«Type» (type_in d))
    ∷ (codes "query", λ d. option_map commands.Query (query_in d))
    ∷ (codes "plan", λ d. option_map commands.Plan (query_in d))
    ∷ (codes "index", λ d. option_map commands.Index (json_index d))
    ∷ (codes "drop", λ d. option_map commands.Drop (as_str d))
    ∷ (codes "disable", λ d. option_map commands.Disable (as_str d))
    ∷ (codes "write_only", λ d. option_map commands.WriteOnly (as_str d))
    ∷ (codes "readable", λ d. option_map commands.Readable (as_str d))
    ∷ (codes "state", λ d. option_map commands.State (as_str d)) ∷ []) name)

-- a whole number of 32 bits without sign
abbrev pub limit_in : Data → Option ℕ
limit_in d = option_and_then (λ number. if nat_lt number (2 ^ 32) then Some number else None) (number_in d)

-- the command of this name with the name of a type, or of an index, and cells, a limit or a field
abbrev pub command_on : List ℕ → Data → Data → Option Command
command_on name owner part =
    option_and_then (λ t.
    option_and_then (λ (reads : Data → Option Command). reads part)
    (named ((codes "save", λ d. option_map (commands.Save t) (cells_in d))
    ∷ (codes "load", λ d. option_map (commands.Load t) (cells_in d))
    ∷ (codes "remove", λ d. option_map (commands.Remove t) (cells_in d))
    ∷ (codes "aggregate", λ d. option_map (commands.Aggregate t) (cells_in d))
    ∷ (codes "build", λ d. option_map (commands.Build t) (limit_in d))
    ∷ (codes "field", λ d. option_map (commands.Field t) (json_field d)) ∷ []) name)) (as_str owner)

-- the step of this name with just the number of a client or of a role; where no store is named it is store 1
abbrev pub step_of_number : List ℕ → ℕ → Option Step
step_of_number name number =
    named ((codes "begin", Begin number 1) ∷ (codes "execute", Execute number) ∷ (codes "commit", Commit number)
    ∷ (codes "abandon", Abandon number) ∷ (codes "resolve", Resolve number) ∷ (codes "log", Log number)
    ∷ (codes "pull", Pull number) ∷ []) name

-- the step of this name with a client's number and one part: a transaction is begun in the store of a number, or a
-- command is performed
abbrev pub step_with_part : List ℕ → ℕ → Data → Option Step
step_with_part name number part =
    if bytes_eq (codes "begin") name then option_map (Begin number) (number_in part)
    else option_map (Perform number) (command_with name part)

-- the step of this name with a number, and what stands behind it
abbrev pub numbered_step : List ℕ → ℕ → List Data → Option Step
numbered_step name number [] = step_of_number name number
numbered_step name number (part ∷ []) = step_with_part name number part
numbered_step name number (owner ∷ part ∷ []) = option_map (Perform number) (command_on name owner part)
numbered_step name number parts = None

-- the step that is this name alone
abbrev pub common_step : List ℕ → Option Step
common_step name = named ((codes "report", Report) ∷ (codes "lost", Lost) ∷ (codes "settle", Settle) ∷ []) name

-- the step of this name, and what stands behind it
abbrev pub step_with : List ℕ → List Data → Option Step
step_with name [] = common_step name
step_with name (written ∷ parts) = option_and_then (λ number. numbered_step name number parts) (number_in written)

-- the step of a name and its parts
abbrev pub step_of : List Data → Option Step
step_of [] = None
step_of (name ∷ parts) = option_and_then (λ word. step_with word parts) (as_str name)

-- the step that a list stands for
abbrev pub step_in : Data → Option Step
step_in d = option_and_then step_of (list_in d)
