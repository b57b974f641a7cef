use Rattle.std.proofs.Common.{◌≡◌, ◌+◌, ◌*◌, Some, take, map}
use Rattle.serde_json.specs.Data.{depth, items_depth}
use Rattle.serde_json.specs.View.{items_view, view}
use Rattle.query.specs.View.{filter_of}
use Rattle.json_forms.specs.Json.{each_in}
use Rattle.json_forms.specs.QueryJson.{filter_in}
use Rattle.json_forms.proofs.query_json.+reading.Given as goal

-- a list nests a level deeper than what stands in it
abbrev pub decreases-filter_of : goal.decreases-filter_of
decreases-filter_of l = 3 * depth (view l.value.now)

abbrev pub decreases-worded_filter : goal.decreases-worded_filter
decreases-worded_filter l = 3 * items_depth (items_view l.rest.now) + 2

abbrev pub decreases-opposite_of : goal.decreases-opposite_of
decreases-opposite_of l = 3 * items_depth (items_view l.rest.now) + 1

abbrev pub decreases-filters_of : goal.decreases-filters_of
decreases-filters_of l = 3 * items_depth (items_view l.items.now) + 1

abbrev pub invariant-filters_of-loop-item : goal.invariant-filters_of-loop-item
invariant-filters_of-loop-item l = each_in filter_in (map view (take l.item-index l.items)) ≡ Some (map filter_of l.filters.items)
