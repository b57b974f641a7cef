use Rattle.std.proofs.Common.{subst}
use Rattle.cluster_core.specs.Tree.{IsLaid}
use Rattle.cluster_core.proofs.Overlaid.{IsOverlay, overlay}
use Rattle.cluster_core.proofs.segments.overlay.Goals as goal

overlaid : (c : goal.After-lay) → IsOverlay c.args.segments.now.entries c.lay.new.self.entries c.args.begin c.args.end c.args.place
overlaid c =
    overlay c.args.segments.now.entries c.lay.new.self.entries c.in_ok-rest.rest.entries c.args.begin c.args.end c.args.place c.requires.some c.requires.order c.in_ok-rest.ensures.rest.0 c.in_ok-rest.ensures.rest.1 c.in_ok-rest.ensures.rest.2
    (
    subst (λ b. IsLaid b (record { end = c.args.end; place = c.args.place }) c.in_ok-rest.rest.entries c.args.segments.now.entries c.lay.new.self.entries) c.in_ok-node.ensures.0
    (subst (λ s. IsLaid c.in_ok-node.node.value.begin s c.in_ok-rest.rest.entries c.args.segments.now.entries c.lay.new.self.entries) c.in_ok-node.ensures.1 c.lay.ensures)
    )
    c.requires.keys

pub returns-clause-keys : goal.returns-clause-keys
returns-clause-keys c = (overlaid c).keys

pub returns-clause-order : goal.returns-clause-order
returns-clause-order c = (overlaid c).order

pub returns-clause-overlays : goal.returns-clause-overlays
returns-clause-overlays c = (overlaid c).overlays

pub returns-clause-covered : goal.returns-clause-covered
returns-clause-covered c = (overlaid c).covered
