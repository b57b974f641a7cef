use Rattle.std.proofs.Common.{◌∙◌, sym}
use Rattle.cluster_core.proofs.Segmented.{floor_none, floor_over, floor_short}
use Rattle.cluster_core.proofs.segments.segment_over.Goals as goal

pub returns-then-is_before-clause-some : goal.returns-then-is_before-clause-some
returns-then-is_before-clause-some c = floor_over _ _ _ _ c.in-Some.ensures.some (sym c.is_before.ensures ∙ c.if-is_before.true)

pub returns-else-is_before-clause-none : goal.returns-else-is_before-clause-none
returns-else-is_before-clause-none c = λ at covered.
    floor_short _ _ _ _ _ _ c.in-Some.ensures.some (sym c.is_before.ensures ∙ c.if-is_before.false) covered.over

pub returns-in-None-clause-none : goal.returns-in-None-clause-none
returns-in-None-clause-none c = λ at covered. floor_none _ _ _ _ c.in-None.ensures.none covered.over
