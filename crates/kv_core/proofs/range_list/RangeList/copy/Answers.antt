use Rattle.std.proofs.Common.{◌∙◌}
use Rattle.std.specs.List.{each_same}
use Rattle.kv_core.proofs.Indexes.{has_index_at}
use Rattle.kv_core.proofs.range_list.RangeList.copy.Goals as goal

pub invariant_of-result : goal.invariant_of-result
invariant_of-result c =
    has_index_at c.in_ok-index.index c.self.inside.ranges.items c.in_ok-ranges.ranges.items
    (each_same c.self.inside.ranges.items c.in_ok-ranges.ranges.items c.in_ok-ranges.ensures.cases.0) (c.in_ok-index.ensures c.self.inside.ranges.items c.self.invariant)

pub returns : goal.returns
returns c = each_same c.self.inside.ranges.items c.in_ok-ranges.ranges.items c.in_ok-ranges.ensures.cases.0 ∙ c.self.view_is
