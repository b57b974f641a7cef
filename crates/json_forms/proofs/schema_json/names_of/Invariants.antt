use Rattle.std.proofs.Common.{◌≡◌, Some, take, map}
use Rattle.serde_json.specs.Find.{as_str}
use Rattle.serde_json.specs.View.{view}
use Rattle.json_forms.specs.Json.{each_in}
use Rattle.json_forms.proofs.schema_json.names_of.Given as goal

abbrev pub invariant-loop-item : goal.invariant-loop-item
invariant-loop-item l = each_in as_str (map view (take l.item-index l.item-items)) ≡ Some l.names.items
