use Rattle.std.proofs.Common.{◌≡◌, Some, take, map}
use Rattle.serde_json.specs.View.{view}
use Rattle.json_forms.specs.CellJson.{cells_in}
use Rattle.json_forms.specs.Json.{each_in}
use Rattle.script.proofs.race.rows_of.Given as goal

abbrev pub invariant-loop-item : goal.invariant-loop-item
invariant-loop-item l = each_in cells_in (map view (take l.item-index l.item-items)) ≡ Some l.rows.items
