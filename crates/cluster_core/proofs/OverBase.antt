-- Servers over a base: one version of mutations that put its pairs, of which nothing before is kept.
use Rattle.std.proofs.Common.{arith, ◌≡◌, ℕ, ◌+◌, ◌-◌, ◌≤◌, unwrap_or, List, [], ◌∷◌, ◌++◌, length, map, take, sym, ap, ◌∙◌}
use Rattle.std.specs.FinMap.{empty, from_entries}
use Rattle.std.specs.List.{AllByRecursion, slice_get}
use Rattle.kv_core.specs.Map.{Map, after_all}
use Rattle.kv_core.specs.declared.change.Mutation.{Mutation}
use Rattle.kv_core.specs.declared.change.Mutation.TheVariants.{Set}
use Rattle.kv_core.proofs.Changes.{after_all-append}
use Rattle.kv_core.proofs.Stored.{put_before, put_before-empty, put_before-push}
use Rattle.cluster_core.specs.declared.answers.Config.{Config}
use Rattle.cluster_core.specs.declared.server.Server.{Server}
use Rattle.cluster_core.specs.Chains.{links_at}
use Rattle.cluster_core.specs.Configuration.{first_server_over, first_tier_over}
use Rattle.cluster_core.specs.Decision.{Owned, owners}
use Rattle.cluster_core.specs.Server.{IsFirstOver, IsServer, first_server, owner_of, server_state}
use Rattle.cluster_core.specs.Tier.{ServerState, TierState, absorb, part}

-- a server that absorbs these from the version before on, of which it keeps no other map
pub over_first : (owner : Owned) (mutations : List Mutation) (version : ℕ) → 1 ≤ version →
    absorb 0 owner mutations (first_server (version - 1)) ≡ first_server_over (after_all mutations empty) version owner
over_first owner mutations version some =
    let at : (version - 1) + 1 ≡ version = omega (arith, some) in
    let none : (version - 1) - (version - 1) ≡ 0 = omega arith in
    λ i. record { version = at i; maps = part owner (after_all mutations (unwrap_or (slice_get (empty ∷ []) (none i)) empty)) ∷ [] }

-- what keeps one map is within every window
pub any_window : (server : Server) → IsServer 0 server → (window : ℕ) → IsServer window server
any_window server kept window = record {
  rest = kept.rest;
  depth = let depth = kept.depth in omega (arith, depth);
  short = λ key. let short : length (links_at server.chains.chains key) ≤ 0 + 1 = kept.short key in omega (arith, short);
}

first_over : (base : Map) (version : ℕ) (ss : List Server) → AllByRecursion (IsFirstOver base version) ss → map server_state ss ≡ map (first_server_over base version) (map owner_of ss)
first_over base version [] all = λ i. []
first_over base version (s ∷ ss) all = λ i. all.0 i ∷ first_over base version ss all.1 i

pub starts_over : (base same : Map) (config : Config) (splits : List (List ℕ)) (ss : List Server) → same ≡ base → splits ≡ config.storage_splits → map owner_of ss ≡ owners splits →
    AllByRecursion (IsFirstOver same config.start) ss →
    ◌≡◌ {A = TierState} (record { splits = splits; window = config.window; servers = map server_state ss }) (first_tier_over base config)
starts_over base same config splits ss here is parts states =
    let all : map server_state ss ≡ map (first_server_over base config.start) (owners config.storage_splits) =
    first_over same config.start ss states ∙ (λ i. map (first_server_over (here i) config.start) ((parts ∙ ap owners is) i)) in
    λ i. record { splits = is i; window = config.window; servers = all i }

-- the pairs that are left, put before what the mutations so far make
pub puts_turn : (rest more : List (List ℕ × List ℕ)) (ms new : List Mutation) (all : List (List ℕ × List ℕ)) (k v : List ℕ) → rest ≡ more ++ (k, v) ∷ [] → new ≡ ms ++ Set k v ∷ [] →
    put_before rest (after_all ms empty) ≡ from_entries all → put_before more (after_all new empty) ≡ from_entries all
puts_turn rest more ms new all k v is done so =
    ap (put_before more) (ap (λ xs. after_all xs empty) done ∙ after_all-append ms (Set k v ∷ []) empty)
    ∙ sym (put_before-push more (k, v) (after_all ms empty)) ∙ ap (λ xs. put_before xs (after_all ms empty)) (sym is) ∙ so
