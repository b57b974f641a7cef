-- A read of the servers one after another is a read of their maps together.
use Rattle.std.proofs.Common.{All, ◌≡◌, ℕ, ◌-◌, ◌<◌, Bool, List, [], ◌∷◌, map, take, sym, ap, subst, ◌∙◌}
use Rattle.std.proofs.lemmas.List.Folds.{flat_map-map}
use Rattle.std.proofs.Math.ListN.{get_or-map}
use Rattle.std.proofs.lemmas.List.{length-map}
use Rattle.std.proofs.lemmas.List.Elements.{All-from_recursion, All-map}
use Rattle.std.specs.FinMap.{entries, from_entries}
use Rattle.std.specs.List.{AllByRecursion, flat_map}
use Rattle.kv_core.specs.Range.{KeyRange}
use Rattle.kv_core.specs.Read.{read_of}
use Rattle.cluster_core.specs.Chains.{AreFalling}
use Rattle.cluster_core.specs.Server.{IsServer, IsTier, owner_of, pairs_at, server_state, turned}
use Rattle.cluster_core.specs.Tier.{ServerState, TierState, map_of, part, whole_map}
use Rattle.cluster_core.specs.declared.server.Server.{Server}
use Rattle.cluster_core.proofs.JoinedPairs.{joined_read}
use Rattle.cluster_core.proofs.OwnMaps.{own-map_of}
use Rattle.cluster_core.proofs.ServerSteps.{rest_falling}

-- each server's map at a version has its own keys
pub own_at : (version window : ℕ) (servers : List Server) → AllByRecursion (IsServer window) servers →
    AllByRecursion (λ s. part (owner_of s) (map_of (server_state s) version) ≡ map_of (server_state s) version) servers
own_at version window [] kept = tt
own_at version window (s ∷ servers) kept = (own-map_of (owner_of s) (server_state s).maps (s.version - version) kept.0.rest.own, own_at version window servers kept.1)

pub falling_at : (window : ℕ) (servers : List Server) → AllByRecursion (IsServer window) servers → AllByRecursion (λ s. AreFalling s.chains.chains) servers
falling_at window [] kept = tt
falling_at window (s ∷ servers) kept = (rest_falling s kept.0.rest, falling_at window servers kept.1)

pub all_falling : (window : ℕ) (servers same : List Server) → same ≡ servers → AllByRecursion (IsServer window) servers → All (λ s. AreFalling s.chains.chains) same
all_falling window servers same is kept = let Q : List Server → Type 0 = All (λ s. AreFalling s.chains.chains) in subst Q (sym is) (All-from_recursion (λ s. AreFalling s.chains.chains) servers (falling_at window servers kept))

pub tier_read : (tier : TierState) (splits : List (List ℕ)) (window : ℕ) (servers : List Server) (range : KeyRange) (version limit : ℕ) (b : Bool) →
    ◌≡◌ {A = TierState} (record { splits = splits; window = window; servers = map server_state servers }) tier → IsTier splits window servers →
    take limit (flat_map (pairs_at range version b) (turned b servers)) ≡ read_of (whole_map tier version) range limit b
tier_read tier splits window servers range version limit b view is =
    joined_read owner_of (λ s. map_of (server_state s) version) splits servers range limit b is.parts is.rising (own_at version window servers is.kept)
    ∙ ap (λ es. read_of (from_entries es) range limit b) (sym (flat_map-map (λ s. entries (map_of s version)) server_state servers))
    ∙ ap (λ t. read_of (whole_map t version) range limit b) view

-- what holds of each state holds of each server
pub each_server : (P : ServerState → Type 0) (tier : TierState) (splits : List (List ℕ)) (window : ℕ) (servers same : List Server) →
    ◌≡◌ {A = TierState} (record { splits = splits; window = window; servers = map server_state servers }) tier → same ≡ servers → All P tier.servers → All (λ s. P (server_state s)) same
each_server P tier splits window servers same view is all =
    let Q : List ServerState → Type 0 = All P in
    let R : List Server → Type 0 = All (λ s. P (server_state s)) in
    subst R (sym is)
    (λ k d below. subst P (get_or-map server_state servers k d) (subst Q (sym (ap (λ t. t.servers) view)) all k (server_state d) (subst (λ n. k < n) (sym (length-map servers server_state)) below)))

pub each_state : (P : ServerState → Type 0) (tier : TierState) (splits : List (List ℕ)) (window : ℕ) (servers same : List Server) →
    ◌≡◌ {A = TierState} (record { splits = splits; window = window; servers = map server_state servers }) tier → same ≡ servers → All (λ s. P (server_state s)) same → All P tier.servers
each_state P tier splits window servers same view is all =
    let Q : List ServerState → Type 0 = All P in
    let R : List Server → Type 0 = All (λ s. P (server_state s)) in
    subst Q (ap (λ t. t.servers) view) (All-map P server_state servers (subst R is all))
