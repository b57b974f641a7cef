use Rattle.std.proofs.Common.{◌∙◌, [], ap, refl}
use Rattle.range_set.specs.Gaps.{first_gap}
use Rattle.range_set.specs.Steps.{gap_from}
use Rattle.range_set.proofs.Walks.{gap_found}
use Rattle.range_set.proofs.ranges.Ranges.first_gap.Goals as goal

pub returns : goal.returns
returns c =
    c.in_ok-gap.ensures ∙ ap (gap_from []) c.as_slice.ensures.value
    ∙ gap_found c.self.inside.ranges.items c.self.inside.ranges.items c.self.invariant (λ position. refl)
    ∙ ap first_gap c.self.view_is
