use Rattle.std.proofs.Common.{◌≡◌, ◌≤◌, Some, take, map}
use Rattle.serde_json.specs.View.{view}
use Rattle.tuple_codec.specs.Item.{nesting}
use Rattle.tuple_codec.specs.Elements.{items_in}
use Rattle.json_forms.specs.Json.{each_in}
use Rattle.json_forms.specs.TupleJson.{json_item}
use Rattle.json_forms.proofs.tuple_json.+read.Given as goal

abbrev pub invariant-elements_of-loop-item : goal.invariant-elements_of-loop-item
invariant-elements_of-loop-item l = record {
  read : each_in (json_item l.levels) (map view (take l.item-index l.items)) ≡ Some (items_in l.elements.items);
  nests : nesting (items_in l.elements.items) ≤ l.levels;
}
