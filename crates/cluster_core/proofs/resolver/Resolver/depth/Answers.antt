use Rattle.std.proofs.Common.{◌∙◌, ◌-◌, None, ap, length, sym}
use Rattle.cluster_core.specs.Progress.{ResolverState}
use Rattle.cluster_core.proofs.Forgetting.{answered_is}
use Rattle.cluster_core.proofs.resolver.Resolver.depth.Goals as goal

pub returns : goal.returns
returns c =
    c.saturating_sub.ensures
    ∙ (λ i. sym (answered_is c.self.inside.answered None c.self.inside.causes.items c.self.invariant) i - c.dropped.ensures i)
    ∙ ap (λ (r : ResolverState). length r.causes - r.writers.dropped) c.self.view_is
