-- What the pipeline and the servers of a cluster keep together.
use Rattle.std.specs.Prelude.{◌≡◌, ℕ, ◌+◌, ◌≤◌, List, length, map}
use Rattle.std.specs.List.{AllByRecursion}
use Rattle.kv_core.specs.Map.{Map}
use Rattle.cluster_core.specs.Cluster.{ClusterState, tier_of}
use Rattle.cluster_core.specs.Decision.{owners}
use Rattle.cluster_core.specs.Roles.{PipelineState, submitted}
use Rattle.cluster_core.specs.Tier.{TierState}

-- the clock of each server: its last version
abbrev pub clocks_of : TierState → List ℕ
clocks_of tier = map (λ server. server.version) tier.servers

-- the state of a base, a pipeline over it, and its servers
abbrev pub cluster_of : Map → PipelineState → TierState → ClusterState
cluster_of base pipeline tier =
    record { base = base; pipeline = pipeline; splits = tier.splits; pulled = clocks_of tier }

-- Private: the servers are those that the clocks say, one for each owner, and have pulled no version that isn't
-- submitted; what they haven't pulled is kept
pub record IsCluster (base : Map) (pipeline : PipelineState) (tier : TierState) : Type 0 where
  pub servers : tier ≡ tier_of (cluster_of base pipeline tier)
  pub counts : length (clocks_of tier) ≡ length (owners tier.splits)
  pub some_log : 1 ≤ length pipeline.logged
  pub started : AllByRecursion (λ clock. pipeline.start ≤ clock) (clocks_of tier)
  pub given : AllByRecursion (λ clock. clock ≤ submitted pipeline) (clocks_of tier)
  pub unpulled : AllByRecursion (λ clock. pipeline.start + pipeline.forgotten ≤ clock) (clocks_of tier)
