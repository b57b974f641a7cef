use Rattle.std.proofs.Common.{◌≡◌, ◌∙◌, ◌+◌, ◌<◌, ◌≤◌, Some, [], ap, get_or, length, slice_get, subst, sym, true}
use Rattle.cluster_core.specs.Decision.{log}
use Rattle.cluster_core.specs.Roles.{entries}
use Rattle.cluster_core.proofs.Clocks.{below_clock, within_clocks}
use Rattle.cluster_core.proofs.Standing.{logged_here, logged_nothing}
use Rattle.cluster_core.proofs.pipeline.Pipeline.logged.Goals as goal

pub returns-then-passes : goal.returns-then-passes
returns-then-passes c =
    let d = c.index.result.now in
    let inside = within_clocks c.self.inside.start (λ passes. length passes) c.self.inside.logs.items c.args.l (subst (λ p. c.args.l < length p.logged) (sym c.self.view_is) c.requires.log) in
    let below = below_clock c.self.inside.start (λ passes. length passes) c.self.inside.logs.items c.args.l c.args.place d inside
    (subst (λ p. p.start + c.args.place < get_or p.logged c.args.l 0) (sym c.self.view_is) c.requires.place) in
    let from = subst (λ p. p.forgotten ≤ c.args.place) (sym c.self.view_is) c.requires.kept in
    subst (λ p. slice_get (log p.splits (entries p)) c.args.place ≡ Some c.as_slice.result.now) c.self.view_is
    (logged_here _ _ _ _ _ _ _ c.self.invariant c.args.l c.args.place d c.at.result.now true inside from below c.at.ensures
    (sym c.if-passes.true ∙ c.passes.ensures ∙ ap (λ passes. get_or passes c.args.place true) c.index.ensures)
    ∙ ap Some (sym c.as_slice.ensures))

pub returns-else-passes : goal.returns-else-passes
returns-else-passes c =
    let d = c.index.result.now in
    let inside = within_clocks c.self.inside.start (λ passes. length passes) c.self.inside.logs.items c.args.l (subst (λ p. c.args.l < length p.logged) (sym c.self.view_is) c.requires.log) in
    let below = below_clock c.self.inside.start (λ passes. length passes) c.self.inside.logs.items c.args.l c.args.place d inside
    (subst (λ p. p.start + c.args.place < get_or p.logged c.args.l 0) (sym c.self.view_is) c.requires.place) in
    let from = subst (λ p. p.forgotten ≤ c.args.place) (sym c.self.view_is) c.requires.kept in
    subst (λ p. slice_get (log p.splits (entries p)) c.args.place ≡ Some []) c.self.view_is
    (logged_nothing _ _ _ _ _ _ _ c.self.invariant c.args.l c.args.place d inside from below
    (sym c.if-passes.false ∙ c.passes.ensures ∙ ap (λ passes. get_or passes c.args.place true) c.index.ensures))
