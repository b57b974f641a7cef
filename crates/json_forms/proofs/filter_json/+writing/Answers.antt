use Rattle.std.proofs.Common.{◌∙◌, ◌≤◌, ap, map, rules}
use Rattle.std.proofs.lemmas.List.{take_all}
use Rattle.serde_json.proofs.Views.{view-Array}
use Rattle.serde_json.specs.Data.{array}
use Rattle.query.specs.Filter.{depth, filters_of, greatest_depth}
use Rattle.query.specs.View.{filter_of}
use Rattle.json_forms.proofs.Filters.{data_more, depth_at}
use Rattle.json_forms.proofs.filter_json.+writing.Goals as goal

pub filters_value-filter_value-requires : goal.filters_value-filter_value-requires
filters_value-filter_value-requires t c =
    let deep : depth (filter_of c.part-item.result) ≤ greatest_depth (filters_of (map filter_of c.args.parts.now)) = depth_at c.args.parts.now c.loop-part.part-index c.part-item.result c.loop-part-test.true c.part-item.is in
    search (rules, deep)

pub filters_value-loop-part-preserved : goal.filters_value-loop-part-preserved
filters_value-loop-part-preserved t c = rw c.in_ok-push.ensures.items (data_more c.args.parts.now c.loop-part.part-index c.part-item.result _ c.loop-part.items.items c.in_ok-filter_value.field-0 c.loop-part-test.true c.part-item.is c.in_ok-filter_value.ensures c.loop-part.invariant)

pub filters_value-returns : goal.filters_value-returns
filters_value-returns t c = view-Array c.loop-part.items ∙ ap array (rw (take_all c.loop-part.part-index c.args.parts.now c.loop-part-test.false) at c.loop-part.invariant)
