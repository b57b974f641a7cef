use Rattle.std.proofs.Common.{◌≡◌, ◌∙◌, None, ap, false, subst, sym, true}
use Rattle.cluster_core.specs.Decision.{cut, owns}
use Rattle.cluster_core.specs.Points.{kept_place}
use Rattle.cluster_core.specs.Segments.{IsNewestOver}
use Rattle.cluster_core.proofs.PointSegments.{newest_at, newest_of_others, newest_off}
use Rattle.cluster_core.proofs.points.Points.newest_in.Goals as goal

pub returns-else-reaches : goal.returns-else-reaches
returns-else-reaches c =
    subst (λ p. IsNewestOver p.segments (cut c.args.part.now c.args.range.now) None) c.self.view_is
    (newest_off c.self.inside.places.entries c.self.inside.hull c.args.part.now c.args.range.now c.self.invariant (sym c.reaches.ensures ∙ c.if-reaches.false))

pub returns-then-not-owns : goal.returns-then-not-owns
returns-then-not-owns c =
    subst (λ p. IsNewestOver p.segments (cut c.args.part.now c.args.range.now) None) c.self.view_is
    (newest_of_others c.self.inside.places.entries c.args.part.now c.args.range.now c.if-not-is_point.ensures
    (subst (λ k. owns c.args.part.now k ≡ false) c.begin.ensures.value (sym c.owns.ensures ∙ c.if-not-owns.true)))

pub returns : goal.returns
returns c =
    subst (λ p. IsNewestOver p.segments (cut c.args.part.now c.args.range.now) c.copied.result) c.self.view_is
    (newest_at c.self.inside.places.entries c.args.part.now c.args.range.now c.copied.result c.if-not-is_point.ensures
    (subst (λ k. owns c.args.part.now k ≡ true) c.begin.ensures.value (sym c.owns.ensures ∙ c.if-not-owns.false))
    (c.copied.ensures ∙ c.get.ensures.value ∙ ap (kept_place c.self.inside.places.entries) c.begin-2.ensures.value))
