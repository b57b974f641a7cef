-- Private: how the states of the servers are told apart.
use Rattle.std.specs.Prelude.{ℕ, List, refl}
use Rattle.std.specs.Coded.{Coded, code_by, coded×, coded_list, coded_ℕ}
use Rattle.std.specs.FinMap as finmap
use Rattle.kv_core.specs.Map.{Map}
use Rattle.cluster_core.specs.Tier.{ServerState, TierState}

-- a map by its entries
abbrev pub map_code : Coded Map
map_code = finmap.code (coded_list coded_ℕ) (coded_list coded_ℕ)

-- a server as the pair of its fields
abbrev pub server_code : Coded ServerState
server_code =
    code_by (ℕ × List Map) (coded× coded_ℕ (coded_list map_code)) (λ s. (s.version, s.maps))
    (λ p. record { version = p.0; maps = p.1 }) (λ _. refl)

-- the servers as their fields
abbrev pub tier_code : Coded TierState
tier_code =
    code_by (List (List ℕ) × (ℕ × List ServerState))
    (coded× (coded_list (coded_list coded_ℕ)) (coded× coded_ℕ (coded_list server_code)))
    (λ t. (t.splits, (t.window, t.servers)))
    (λ p. record { splits = p.0; window = p.1.0; servers = p.1.1 }) (λ _. refl)
