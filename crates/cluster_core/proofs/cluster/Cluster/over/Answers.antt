use Rattle.std.proofs.Common.{◌∙◌, subst, sym}
use Rattle.std.specs.FinMap.{from_entries}
use Rattle.cluster_core.specs.Configuration.{config_refusal, first_pipeline}
use Rattle.cluster_core.specs.Pulled.{IsCluster, cluster_of}
use Rattle.cluster_core.proofs.ClusterSteps.{none_from, starts-cluster, starts-view}
use Rattle.cluster_core.proofs.cluster.Cluster.over.Goals as goal

pub invariant_of-result : goal.invariant_of-result
invariant_of-result c =
    let base = from_entries c.args.pairs.items in
    subst (λ b. IsCluster b c.in_ok-pipeline.pipeline c.in_ok-tier.tier) (sym c.of-base.ensures)
    (subst (λ p. IsCluster base p c.in_ok-tier.tier) (sym c.in_ok-pipeline.ensures.made)
    (subst (IsCluster base (first_pipeline c.args.config.now)) (sym c.in_ok-tier.ensures.made)
    (starts-cluster base c.args.config.now (none_from (config_refusal c.args.config.now) c.in_ok-tier.ensures.allowed))))

pub returns-clause-made : goal.returns-clause-made
returns-clause-made c =
    (λ i. cluster_of (c.of-base.ensures i) (c.in_ok-pipeline.ensures.made i) (c.in_ok-tier.ensures.made i)) ∙ starts-view (from_entries c.args.pairs.items) c.args.config.now
