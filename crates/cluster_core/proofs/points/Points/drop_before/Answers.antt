use Rattle.std.proofs.Common.{rules, ◌≡◌, nat_le, subst, sym}
use Rattle.std.proofs.lemmas.Map.Made.{filter_same_pairs}
use Rattle.std.specs.List.{filter}
use Rattle.cluster_core.specs.Segments.{IsCovered, SegmentHolds}
use Rattle.cluster_core.proofs.PointSegments.{left_holds, left_kept, left_recent, left_spanned}
use Rattle.cluster_core.proofs.points.Points.drop_before.Goals as goal

pub invariant_of-self : goal.invariant_of-self
invariant_of-self c =
    let is : c.retain.new.self.entries ≡ filter (λ e. nat_le c.args.least e.1) c.self.inside.places.entries =
    filter_same_pairs _ (λ e. nat_le c.args.least e.1) _ (λ k v b w f t. search rules) _ _ c.retain.ensures.filtered in
    left_spanned c.self.inside.places.entries c.retain.new.self.entries c.args.least c.retain.ensures.was_unique is c.self.inside.hull c.self.invariant

pub returns-clause-holds : goal.returns-clause-holds
returns-clause-holds c = λ key place h.
    let is : c.retain.new.self.entries ≡ filter (λ e. nat_le c.args.least e.1) c.self.inside.places.entries =
    filter_same_pairs _ (λ e. nat_le c.args.least e.1) _ (λ k v b w f t. search rules) _ _ c.retain.ensures.filtered in
    subst (λ p. SegmentHolds p.segments key place) c.self.view_is
    (left_holds c.self.inside.places.entries c.retain.new.self.entries c.args.least c.retain.ensures.was_unique is key place h)

pub returns-clause-kept : goal.returns-clause-kept
returns-clause-kept c = λ key place from h.
    let is : c.retain.new.self.entries ≡ filter (λ e. nat_le c.args.least e.1) c.self.inside.places.entries =
    filter_same_pairs _ (λ e. nat_le c.args.least e.1) _ (λ k v b w f t. search rules) _ _ c.retain.ensures.filtered in
    left_kept c.self.inside.places.entries c.retain.new.self.entries c.args.least c.retain.ensures.was_unique is key place from
    (subst (λ p. IsCovered p.segments key place) (sym c.self.view_is) h)

pub returns-clause-recent : goal.returns-clause-recent
returns-clause-recent c = λ key place h.
    let is : c.retain.new.self.entries ≡ filter (λ e. nat_le c.args.least e.1) c.self.inside.places.entries =
    filter_same_pairs _ (λ e. nat_le c.args.least e.1) _ (λ k v b w f t. search rules) _ _ c.retain.ensures.filtered in
    left_recent c.self.inside.places.entries c.retain.new.self.entries c.args.least c.retain.ensures.was_unique is key place h
