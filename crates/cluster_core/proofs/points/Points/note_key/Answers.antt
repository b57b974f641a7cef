use Rattle.std.proofs.Common.{◌≡◌, ◌∙◌, subst, sym, true}
use Rattle.std.proofs.lemmas.Bool.{true≢false}
use Rattle.kv_core.specs.Range.{contains, point}
use Rattle.cluster_core.specs.Decision.{owns}
use Rattle.cluster_core.specs.Points.{points_of}
use Rattle.cluster_core.specs.Segments.{Overlays}
use Rattle.cluster_core.proofs.Ownership.{point_key}
use Rattle.cluster_core.proofs.PointSegments.{noted_covered, noted_overlays, noted_spanned}
use Rattle.cluster_core.proofs.points.Points.note_key.Goals as goal

pub returns-then-not-owns-clause-covered : goal.returns-then-not-owns-clause-covered
returns-then-not-owns-clause-covered c = λ own owned inside.
    let mine : owns c.args.part.now c.args.key.now ≡ true = subst (λ k. owns c.args.part.now k ≡ true) (sym (point_key c.args.key.now own inside)) owned in
    absurd (true≢false (sym mine ∙ sym c.owns.ensures ∙ c.if-not-owns.true))

pub invariant_of-self-2 : goal.invariant_of-self-2
invariant_of-self-2 c =
    noted_spanned c.self.inside.places.entries c.insert.new.self.entries c.args.key.now c.in_ok-copy.field-0 c.args.place c.in_ok-copy.ensures c.in_ok-insert.ensures.updates.0
    c.widen.new.hull (c.widen.ensures.keys c.self.invariant) c.in_ok-widen.ensures.key

pub returns-clause-overlays : goal.returns-clause-overlays
returns-clause-overlays c =
    subst (λ p. Overlays (contains (point c.args.key.now)) c.args.place p.segments (points_of c.insert.new.self.entries)) c.self.view_is
    (noted_overlays c.self.inside.places.entries c.insert.new.self.entries c.args.key.now c.in_ok-copy.field-0 c.args.place c.in_ok-copy.ensures c.in_ok-insert.ensures.updates.0)

pub returns-clause-covered : goal.returns-clause-covered
returns-clause-covered c = λ own owned inside.
    noted_covered c.self.inside.places.entries c.insert.new.self.entries c.args.key.now c.in_ok-copy.field-0 c.args.place c.in_ok-copy.ensures c.in_ok-insert.ensures.updates.0 own inside
