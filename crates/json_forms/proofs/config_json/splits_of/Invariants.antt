use Rattle.std.proofs.Common.{◌≡◌, Some, take, map}
use Rattle.json_forms.specs.Json.{hex_in}
use Rattle.serde_json.specs.View.{view}
use Rattle.json_forms.specs.Json.{each_in}
use Rattle.json_forms.proofs.config_json.splits_of.Given as goal

abbrev pub invariant-loop-item : goal.invariant-loop-item
invariant-loop-item l = each_in hex_in (map view (take l.item-index l.item-items)) ≡ Some l.splits.items
