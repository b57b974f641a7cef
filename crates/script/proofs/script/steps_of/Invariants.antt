use Rattle.std.proofs.Common.{◌≡◌, Some, take, map}
use Rattle.serde_json.specs.View.{view}
use Rattle.json_forms.specs.Json.{each_in}
use Rattle.script.specs.Steps.{step_in}
use Rattle.script.proofs.script.steps_of.Given as goal

abbrev pub invariant-loop-index : goal.invariant-loop-index
invariant-loop-index l = each_in step_in (map view (take l.index l.items)) ≡ Some l.steps.items
