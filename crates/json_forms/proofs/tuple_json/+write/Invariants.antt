use Rattle.std.proofs.Common.{◌≡◌, ◌+◌, ◌*◌, ◌≤◌, Some, take, map}
use Rattle.serde_json.specs.Data.{items_depth}
use Rattle.serde_json.specs.View.{view, items_view}
use Rattle.tuple_codec.specs.Elements.{items_in}
use Rattle.json_forms.specs.Json.{each_in}
use Rattle.json_forms.specs.TupleJson.{json_item}
use Rattle.json_forms.proofs.tuple_json.+write.Given as goal

-- a nested tuple has a level less; within one level the elements come above each of them
abbrev pub decreases-element_value : goal.decreases-element_value
decreases-element_value l = 3 * l.levels + 1

abbrev pub decreases-nested_value : goal.decreases-nested_value
decreases-nested_value l = 3 * l.levels

abbrev pub decreases-element_values : goal.decreases-element_values
decreases-element_values l = 3 * l.levels + 2

abbrev pub invariant-element_values-loop-element : goal.invariant-element_values-loop-element
invariant-element_values-loop-element l = record {
  read : each_in (json_item l.levels) (map view l.values.items) ≡ Some (items_in (take l.element-index l.elements));
  depth : items_depth (items_view l.values.items) ≤ l.levels + 1;
}
