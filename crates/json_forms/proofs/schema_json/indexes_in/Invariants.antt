use Rattle.std.proofs.Common.{◌≡◌, Some, take, map}
use Rattle.json_forms.specs.SchemaJson.{json_index}
use Rattle.serde_json.specs.View.{view}
use Rattle.json_forms.specs.Json.{each_in}
use Rattle.json_forms.proofs.schema_json.indexes_in.Given as goal

abbrev pub invariant-loop-item : goal.invariant-loop-item
invariant-loop-item l = each_in json_index (map view (take l.item-index l.item-items)) ≡ Some l.indexes.items
