-- Which configurations there are, and the state at the start.
use Rattle.std.specs.Prelude.{◌≡◌, ℕ, ◌+◌, ◌-◌, ◌≤◌, ◌&&◌, Bool, true, not, nat_le, if◌then◌else◌}
use Rattle.std.specs.Prelude.{Option, Some, None, List, [], ◌∷◌, length, map, replicate}
use Rattle.std.specs.List.{list_all}
use Rattle.std.specs.FinMap.{empty}
use Rattle.kv_core.specs.Map.{Map}
use Rattle.kv_core.specs.declared.change.Mutation.{Mutation}
use Rattle.kv_core.specs.Bytes.{key_lt, end_of_keys}
use Rattle.cluster_core.specs.declared.answers.Config.{Config}
use Rattle.cluster_core.specs.declared.answers.ConfigError.{ConfigError}
use Rattle.cluster_core.specs.declared.answers.ConfigError.TheVariants.{BadCount, BadSplits}
use Rattle.kv_core.specs.declared.change.CommitRequest.{CommitRequest}
use Rattle.cluster_core.specs.Cluster.{ClusterState}
use Rattle.cluster_core.specs.History.{map_at}
use Rattle.cluster_core.specs.Decision.{Owned, owners, numbered, committed, log}
use Rattle.cluster_core.specs.Roles.{PipelineState}
use Rattle.cluster_core.specs.Tier.{ServerState, TierState, after_log, Makes, part, whole_map}

-- whether there may be so many of a role
abbrev pub is_count : ℕ → Bool
is_count n = nat_le 1 n && nat_le n 16

-- whether the keys strictly rise, the first of them above this one
abbrev pub is_rising_above : List ℕ → List (List ℕ) → Bool
is_rising_above key [] = true
is_rising_above key (split ∷ splits) = key_lt key split && is_rising_above split splits

-- whether keys may be splits: they rise from above the empty key, come before the end of the keys, and are no longer
-- than a key may be
abbrev pub are_splits : List (List ℕ) → Bool
are_splits splits =
    is_rising_above [] splits && list_all (λ split. key_lt split end_of_keys && nat_le (length split) 10_000) splits

-- whether each number of the configuration is within its bounds
abbrev pub has_good_counts : Config → Bool
has_good_counts config =
    is_count (length config.resolver_splits + 1) && is_count (length config.storage_splits + 1) && is_count config.logs
    && is_count config.places
    && nat_le 1 config.window && nat_le config.window 1_000_000

-- why a configuration is refused, or None where it isn't
abbrev pub config_refusal : Config → Option ConfigError
config_refusal config =
    if not (has_good_counts config) then Some BadCount
    else (if are_splits config.resolver_splits && are_splits config.storage_splits then None else Some BadSplits)

-- one of each role, and a window of 1000 versions
abbrev pub single : Config
single = record { resolver_splits = []; storage_splits = []; logs = 1; window = 1000; start = 0; places = 4 }

-- the sequencer, the resolvers and the logs at the start: every clock stands at `start`
abbrev pub first_pipeline : Config → PipelineState
first_pipeline config =
    record {
      splits = config.resolver_splits;
      window = config.window;
      start = config.start;
      requests = [];
      resolved = map (λ _. config.start) (owners config.resolver_splits);
      logged = replicate config.logs config.start;
      reported = config.start;
      forgotten = 0;
    }

-- the servers at the start: each has the empty map at `start`
abbrev pub first_tier : Config → TierState
first_tier config =
    record {
      splits = config.storage_splits;
      window = config.window;
      servers = map (λ _. record { version = config.start; maps = empty ∷ [] }) (owners config.storage_splits);
    }

-- a server over a base at a version: it has its part of that
abbrev pub first_server_over : Map → ℕ → Owned → ServerState
first_server_over base version owner = record { version = version; maps = part owner base ∷ [] }

-- the servers over a base: each has its part of that at `start`
abbrev pub first_tier_over : Map → Config → TierState
first_tier_over base config =
    record {
      splits = config.storage_splits;
      window = config.window;
      servers = map (first_server_over base config.start) (owners config.storage_splits);
    }

-- whatever log the servers have absorbed, within the window their maps together are those that the log makes
abbrev pub TierFollowsLog : Type 0
TierFollowsLog =
    (config : Config) (log : List (List Mutation)) (maps : ℕ → Map) → maps config.start ≡ empty →
    Makes maps config.start log →
    (version : ℕ) → config.start ≤ version → version ≤ config.start + length log →
    (config.start + length log) - version ≤ config.window →
    whole_map (after_log log (first_tier config)) version ≡ maps version

-- once the servers have absorbed what the logs have of some requests, within the window their maps together are the
-- database's
abbrev pub TierHasDatabase : Type 0
TierHasDatabase =
    (config : Config) (requests : List CommitRequest) (version : ℕ) →
    config.start ≤ version → version ≤ config.start + length requests →
    (config.start + length requests) - version ≤ config.window →
    let entries = numbered config.start requests in
    whole_map (after_log (log config.resolver_splits entries) (first_tier config)) version
    ≡ map_at (committed config.resolver_splits entries) version

-- the cluster over a base, without requests: every server stands at `start` too, and has the base there
abbrev pub first_cluster_over : Map → Config → ClusterState
first_cluster_over base config =
    record {
      base = base;
      pipeline = first_pipeline config;
      splits = config.storage_splits;
      pulled = map (λ _. config.start) (owners config.storage_splits);
    }

-- the cluster at the start: so it is over the empty map
abbrev pub first_cluster : Config → ClusterState
first_cluster config = first_cluster_over empty config
