use Rattle.std.proofs.Common.{◌∙◌, ◌+◌, ◌-◌, ◌≤◌, ap, arith, subst}
use Rattle.cluster_core.specs.History.{IsLegalOver}
use Rattle.cluster_core.specs.Roles.{done_with, history, kept}
use Rattle.cluster_core.proofs.Standing.{legal}
use Rattle.cluster_core.proofs.pipeline.Pipeline.requests.Goals as goal

pub returns-clause-value : goal.returns-clause-value
returns-clause-value c = c.kept.ensures ∙ ap kept c.self.view_is

pub returns-clause-needed : goal.returns-clause-needed
returns-clause-needed c =
    let f = c.self.inside in
    let needed = c.self.invariant.needed in
    let upto : f.requests.forgotten ≤ (f.start + f.reported) - f.start - f.window = omega (arith, needed) in
    subst (λ p. p.forgotten ≤ done_with p) c.self.view_is upto

pub returns-clause-legal : goal.returns-clause-legal
returns-clause-legal c base = subst (λ p. IsLegalOver base (history p)) c.self.view_is (legal _ _ _ _ _ _ _ c.self.invariant base)
