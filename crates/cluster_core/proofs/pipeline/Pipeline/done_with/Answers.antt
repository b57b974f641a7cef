use Rattle.std.proofs.Common.{◌≡◌, ◌∙◌, ◌+◌, ◌-◌, ◌≤◌, ap, arith, subst, sym}
use Rattle.cluster_core.specs.Roles.{done_with}
use Rattle.cluster_core.proofs.pipeline.Pipeline.done_with.Goals as goal

pub returns-clause-value : goal.returns-clause-value
returns-clause-value c =
    let f = c.self.inside in
    let same : f.reported - f.window ≡ (f.start + f.reported) - f.start - f.window = omega arith in
    c.saturating_sub.ensures ∙ same ∙ ap done_with c.self.view_is

pub returns-clause-forgotten : goal.returns-clause-forgotten
returns-clause-forgotten c =
    subst (λ p. p.forgotten ≤ c.saturating_sub.result) c.self.view_is (subst (λ n. c.self.inside.requests.forgotten ≤ n) (sym c.saturating_sub.ensures) c.self.invariant.needed)
