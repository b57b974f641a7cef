use Rattle.std.proofs.Common.{◌≤◌, subst, sym}
use Rattle.cluster_core.specs.Segments.{IsCovered, SegmentHolds}
use Rattle.cluster_core.proofs.Dropped.{dropped_holds, dropped_kept}
use Rattle.cluster_core.proofs.segments.Segments.drop_before.Goals as goal

pub invariant_of-self : goal.invariant_of-self
invariant_of-self c =
    (λ begin segment there. c.self.invariant.0 begin segment ((c.drop_before.ensures.dropped begin segment).0 there).0, c.drop_before.ensures.order)

pub returns-clause-holds : goal.returns-clause-holds
returns-clause-holds c = λ key place h.
    subst (λ xs. SegmentHolds xs key place) c.self.view_is (dropped_holds c.self.inside.segments.entries c.drop_before.new.segments.entries c.args.least c.drop_before.ensures.dropped key place h)

pub returns-clause-kept : goal.returns-clause-kept
returns-clause-kept c = λ key place from h.
    dropped_kept c.self.inside.segments.entries c.drop_before.new.segments.entries c.args.least c.drop_before.ensures.dropped key place from
    (subst (λ xs. IsCovered xs key place) (sym c.self.view_is) h)

pub returns-clause-recent : goal.returns-clause-recent
returns-clause-recent c = λ key place h. subst (λ n. c.args.least ≤ n) h.placed ((c.drop_before.ensures.dropped h.begin h.segment).0 h.stands).1
