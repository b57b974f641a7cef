use Rattle.std.proofs.Common.{◌≡◌, ◌+◌, ◌*◌, take, map}
use Rattle.serde_json.specs.Data.{item, string}
use Rattle.serde_json.specs.View.{items_view}
use Rattle.query.specs.Filter.{depth, filters_of, greatest_depth}
use Rattle.query.specs.View.{filter_of}
use Rattle.json_forms.specs.QueryJson.{filters_data}
use Rattle.json_forms.proofs.filter_json.+writing.Given as goal

-- a filter is a level deeper than its parts
abbrev pub decreases-filter_value : goal.decreases-filter_value
decreases-filter_value l = 2 * depth (filter_of l.filter.now)

abbrev pub decreases-opposite_value : goal.decreases-opposite_value
decreases-opposite_value l = 2 * depth (filter_of l.part.now) + 1

abbrev pub decreases-filters_value : goal.decreases-filters_value
decreases-filters_value l = 2 * greatest_depth (filters_of (map filter_of l.parts.now)) + 1

abbrev pub invariant-filters_value-loop-part : goal.invariant-filters_value-loop-part
invariant-filters_value-loop-part l = items_view l.items.items ≡ item (string l.word) (filters_data (filters_of (map filter_of (take l.part-index l.parts))))
