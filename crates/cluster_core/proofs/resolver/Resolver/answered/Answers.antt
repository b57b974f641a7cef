use Rattle.std.proofs.Common.{◌∙◌, None, ap, length, sym}
use Rattle.cluster_core.proofs.Forgetting.{answered_is}
use Rattle.cluster_core.proofs.resolver.Resolver.answered.Goals as goal

pub returns : goal.returns
returns c = sym (answered_is c.self.inside.answered None c.self.inside.causes.items c.self.invariant) ∙ ap (λ r. length r.causes) c.self.view_is
