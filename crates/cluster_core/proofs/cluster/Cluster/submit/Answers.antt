use Rattle.std.proofs.Common.{sym, subst}
use Rattle.cluster_core.specs.Pulled.{IsCluster}
use Rattle.cluster_core.proofs.ClusterSteps.{went-submit}
use Rattle.cluster_core.proofs.cluster.Cluster.submit.Goals as goal

pub invariant_of-self-2 : goal.invariant_of-self-2
invariant_of-self-2 c =
    let f = c.self.inside in
    subst (λ p. IsCluster f.base.map p f.tier) (sym c.in_ok-ticket.ensures.given.0) (went-submit f.base.map f.pipeline c.args.request f.tier c.self.invariant)
