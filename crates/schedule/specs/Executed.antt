-- The steps of plans that commands execute.
use Rattle.std.specs.Prelude.{ℕ, Bool, true, false, ◌&&◌, List, [], Option, Some, None, option_map, option_and_then}
use Rattle.std.specs.Prelude.{if◌then◌else◌}
use Rattle.std.specs.FinMap.{entries}
use Rattle.std.specs.List.{list_all}
use Rattle.kv_core.specs.Map.{Map}
use Rattle.metadata.specs.declared.definition.TypeDefinition.{TypeDefinition}
use Rattle.metadata.specs.Schema.{find_type}
use Rattle.record_store.specs.Call.{Opened, Reading, whole}
use Rattle.record_store.specs.Calls.{index_states}
use Rattle.query.specs.declared.error.QueryError.{QueryError}
use Rattle.query.specs.Checked.{query_refusal}
use Rattle.query.specs.Query.{Query}
use Rattle.planner.specs.Plan.{Node, Plan}
use Rattle.planner.specs.Planned.{planned}
use Rattle.planner.specs.Right.{indexes_of, is_served}
use Rattle.planner.specs.Rules.{usable}
use Rattle.plan_exec.specs.Accepting.{extends, may_read}
use Rattle.plan_exec.specs.Executing.{asks_of, damage_of, reads_of}

-- the type of the records of a plan's steps, and its last step
abbrev pub PlanSteps : Type 0
PlanSteps = TypeDefinition × Node

-- the steps that the planner gives to a query of the type
abbrev pub steps_for : Opened → Query → TypeDefinition → Option PlanSteps
steps_for opened query t =
    option_map (λ root. (t, root)) (planned t (usable opened.schema (index_states opened) t) query)

-- the steps, unless the query is refused or no path serves its sort
abbrev pub unless_refused : Option QueryError → Bool → Option PlanSteps → Option PlanSteps
unless_refused (Some error) served steps = None
unless_refused None false steps = None
unless_refused None true steps = steps

-- the steps of a query by what was opened
abbrev pub query_steps : Opened → Query → Option PlanSteps
query_steps opened query =
    unless_refused (query_refusal opened.schema query) (is_served opened.schema (index_states opened) query)
    (option_and_then (steps_for opened query) (find_type opened.schema query.record_type))

-- the steps of a plan, where the store that was opened has its type, which is t, and may read its indexes
abbrev pub steps_with : Opened → Plan → TypeDefinition → Option PlanSteps
steps_with opened plan t =
    if extends plan.definition t && list_all (may_read opened) (indexes_of plan.root) then Some (t, plan.root)
    else None

abbrev pub plan_steps : Opened → Plan → Option PlanSteps
plan_steps opened plan = option_and_then (steps_with opened plan) (find_type opened.schema plan.definition.name)

-- what steps read of a map: the ranges, in reading order
abbrev pub steps_reading : Opened → Option PlanSteps → Reading
steps_reading opened None = whole []
steps_reading opened (Some steps) = record {
  asked = λ m. asks_of opened.prefix (entries m) steps.0 steps.1;
  added = λ m. reads_of opened.prefix (entries m) steps.0 steps.1;
  set = None;
  pairs = λ m. [];
}

-- the key of the first damaged pair that steps meet in a map, if there is one
abbrev pub steps_damage : Opened → Option PlanSteps → Map → Option (List ℕ)
steps_damage opened None m = None
steps_damage opened (Some steps) m = damage_of opened.prefix (entries m) steps.0 steps.1
