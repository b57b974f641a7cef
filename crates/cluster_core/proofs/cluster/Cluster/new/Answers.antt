use Rattle.std.proofs.Common.{◌≡◌, ◌∙◌, [], ap, subst, sym}
use Rattle.std.specs.FinMap.{empty, from_entries}
use Rattle.kv_core.specs.Map.{Map}
use Rattle.cluster_core.specs.Configuration.{config_refusal, first_pipeline, first_tier_over}
use Rattle.cluster_core.specs.Pulled.{IsCluster, cluster_of}
use Rattle.cluster_core.specs.Tier.{TierState}
use Rattle.cluster_core.proofs.ClusterSteps.{none_from, starts-cluster, starts-empty, starts-view}
use Rattle.cluster_core.proofs.cluster.Cluster.new.Goals as goal

pub invariant_of-result : goal.invariant_of-result
invariant_of-result c =
    let tier : c.in_ok-tier.tier ≡ first_tier_over empty c.args.config.now = c.in_ok-tier.ensures.made ∙ starts-empty c.args.config.now in
    let base : c.of-base.result.map ≡ empty = c.of-base.ensures ∙ ap from_entries c.new-pairs.ensures.items in
    subst (λ b. IsCluster b c.in_ok-pipeline.pipeline c.in_ok-tier.tier) (sym base)
    (subst (λ p. IsCluster empty p c.in_ok-tier.tier) (sym c.in_ok-pipeline.ensures.made)
    (subst (IsCluster empty (first_pipeline c.args.config.now)) (sym tier)
    (starts-cluster empty c.args.config.now (none_from (config_refusal c.args.config.now) c.in_ok-tier.ensures.allowed))))

pub returns-clause-made : goal.returns-clause-made
returns-clause-made c =
    let tier : c.in_ok-tier.tier ≡ first_tier_over empty c.args.config.now = c.in_ok-tier.ensures.made ∙ starts-empty c.args.config.now in
    let base : c.of-base.result.map ≡ empty = c.of-base.ensures ∙ ap from_entries c.new-pairs.ensures.items in
    (λ i. cluster_of (base i) (c.in_ok-pipeline.ensures.made i) (tier i)) ∙ starts-view empty c.args.config.now
