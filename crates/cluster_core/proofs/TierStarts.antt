-- The servers at the start, and one server's step.
use Rattle.std.proofs.Common.{◌≡◌, ℕ, zero, suc, ◌<◌, Bool, true, false, cond, ◌&&◌, not, Option, None, Some, List, [], ◌∷◌, get_or, length, map, arith, refl, sym, ap, subst, ◌∙◌}
use Rattle.std.proofs.Math.Seq.{map-set_same}
use Rattle.std.proofs.lemmas.Bool.{and_parts}
use Rattle.std.proofs.lemmas.List.{length-map, map-set}
use Rattle.std.proofs.lemmas.Option.{slice_get-map, slice_get_read}
use Rattle.std.specs.List.{AllByRecursion, list_all, slice_get, slice_set}
use Rattle.std.specs.Option.{option_map}
use Rattle.kv_core.specs.Bytes.{key_lt, end_of_keys}
use Rattle.kv_core.specs.declared.change.Mutation.{Mutation}
use Rattle.cluster_core.specs.Configuration.{are_splits, config_refusal, first_tier, has_good_counts, is_rising_above}
use Rattle.cluster_core.specs.Decision.{Owned, owners}
use Rattle.std.specs.BTreeMap.{BTreeMap, is_at}
use Rattle.std.specs.Map.{lookup}
use Rattle.kv_core.specs.Bytes.{key_cmp}
use Rattle.cluster_core.specs.Chains.{links_at, links_in, shown}
use Rattle.cluster_core.specs.declared.chain.Chain.{Chain}
use Rattle.cluster_core.specs.Server.{IsChain, IsServer, IsTier, first_server, maps_down, owner_of, recent_of, server_state}
use Rattle.cluster_core.specs.Tier.{ServerState, TierState, absorb, part}
use Rattle.cluster_core.specs.declared.answers.Config.{Config}
use Rattle.cluster_core.specs.declared.answers.ConfigError.TheVariants.{BadCount, BadSplits}
use Rattle.cluster_core.specs.declared.server.Server.{Server}
use Rattle.cluster_core.proofs.ServerSteps.{within_kept}
use Rattle.cluster_core.proofs.StorageMaps.{part-empty}

none_of : (a b : Bool) → cond (not a) (Some BadCount) (cond b None (Some BadSplits)) ≡ None → b ≡ true
none_of true true h = refl
none_of true false h = cc
none_of false b h = cc

-- the splits of a configuration that isn't refused rise
rising-storage : (config : Config) → config_refusal config ≡ None → is_rising_above [] config.storage_splits ≡ true
rising-storage config h =
    let both = and_parts (are_splits config.resolver_splits) (are_splits config.storage_splits) (none_of (has_good_counts config) (are_splits config.resolver_splits && are_splits config.storage_splits) h) in
    (and_parts (is_rising_above [] config.storage_splits)
    (list_all (λ split. key_lt split end_of_keys && Rattle.std.proofs.Common.nat_le (length split) 10_000) config.storage_splits) both.1).0

-- a server without chains is kept as any window says
first_look : (chains : BTreeMap (List ℕ) Chain) (key : List ℕ) → chains.entries ≡ [] → links_at chains key ≡ []
first_look chains key none = ap (λ es. links_in (lookup (is_at (key_cmp key)) es)) none

first_links : (server : Server) (key : List ℕ) → IsChain server.version (recent_of server) key []
first_links server key = record { falls = tt; needed = refl; listed = tt }

pub first_kept : (server : Server) → server.chains.chains.entries ≡ [] → server.chains.written.items ≡ [] → server.recent.items ≡ [] → (window : ℕ) → IsServer window server
first_kept server none idle recent window =
    within_kept server window
    (record {
      own = subst (AllByRecursion (λ m. part server.part m ≡ m)) (sym (λ i. maps_down (shown (none i)) server.version (length (recent i)))) (part-empty server.part, tt);
      chains = λ key. subst (IsChain server.version (recent_of server) key) (sym (first_look server.chains.chains key none)) (first_links server key);
      idle = idle;
    })
    (let depth : length server.recent.items ≡ 0 = ap length recent in omega (arith, depth))

first_all : (window : ℕ) (ss : List Server) → AllByRecursion (λ s. (window : ℕ) → IsServer window s) ss → AllByRecursion (IsServer window) ss
first_all window [] all = tt
first_all window (s ∷ ss) all = (all.0 window, first_all window ss all.1)

first_states : (version : ℕ) (ss : List Server) → AllByRecursion (λ s. server_state s ≡ first_server version) ss → map server_state ss ≡ map (λ _. first_server version) (map owner_of ss)
first_states version [] all = refl
first_states version (s ∷ ss) all = λ i. all.0 i ∷ first_states version ss all.1 i

pub starts_tier : (config : Config) (splits : List (List ℕ)) (ss : List Server) → config_refusal config ≡ None → splits ≡ config.storage_splits → map owner_of ss ≡ owners splits →
    AllByRecursion (λ s. (window : ℕ) → IsServer window s) ss → IsTier splits config.window ss
starts_tier config splits ss allowed is parts kept = record {
  parts = parts;
  rising = ap (is_rising_above []) is ∙ rising-storage config allowed;
  kept = first_all config.window ss kept;
}

pub starts_first : (config : Config) (splits : List (List ℕ)) (ss : List Server) → splits ≡ config.storage_splits → map owner_of ss ≡ owners splits →
    AllByRecursion (λ s. server_state s ≡ first_server config.start) ss →
    ◌≡◌ {A = TierState} (record { splits = splits; window = config.window; servers = map server_state ss }) (first_tier config)
starts_first config splits ss is parts states =
    let all : map server_state ss ≡ map (λ _. first_server config.start) (owners config.storage_splits) =
    first_states config.start ss states ∙ ap (map (λ _. first_server config.start)) (parts ∙ ap owners is) in
    λ i. record { splits = is i; window = config.window; servers = all i }

-- the state of the server at a place
there : {Y : Type 0} (f : Server → Y) (ss : List Server) (s : ℕ) (server : Server) → s < length ss → server ≡ get_or ss s server → slice_get (map f ss) s ≡ Some (f server)
there f ss s server below is = slice_get-map f ss s ∙ ap (option_map f) (slice_get_read ss (length ss) s server refl below is)

set-kept : (window : ℕ) (ss : List Server) (s : ℕ) (next : Server) → AllByRecursion (IsServer window) ss → IsServer window next → AllByRecursion (IsServer window) (slice_set ss s next)
set-kept window [] s next all kept = tt
set-kept window (x ∷ ss) zero next all kept = (kept, all.1)
set-kept window (x ∷ ss) (suc s) next all kept = (all.0, set-kept window ss s next all.1 kept)

pub kept-there : (window : ℕ) (ss : List Server) (s : ℕ) (server : Server) → s < length ss → server ≡ get_or ss s server → AllByRecursion (IsServer window) ss → IsServer window server
kept-there window [] s server below is all = absurd (omega (arith, below))
kept-there window (x ∷ ss) zero server below is all = subst (IsServer window) (sym is) all.0
kept-there window (x ∷ ss) (suc s) server below is all = kept-there window ss s server (omega (arith, below)) is all.1

pub tier-set : (splits : List (List ℕ)) (window : ℕ) (ss : List Server) (s : ℕ) (server next : Server) → server ≡ get_or ss s server → owner_of next ≡ owner_of server →
    IsServer window next → IsTier splits window ss → IsTier splits window (slice_set ss s next)
tier-set splits window ss s server next is same kept tier = record {
  parts = map-set_same owner_of ss s next server (same ∙ ap owner_of is) ∙ tier.parts;
  rising = tier.rising;
  kept = set-kept window ss s next tier.kept kept;
}

abbrev tier_with : List (List ℕ) → ℕ → List ServerState → TierState
tier_with splits window servers = record { splits = splits; window = window; servers = servers }

module _ (tier : TierState) (splits : List (List ℕ)) (window : ℕ) (ss : List Server) (view : ◌≡◌ {A = TierState} (record { splits = splits; window = window; servers = map server_state ss }) tier) where
  pub below-servers : (s : ℕ) → s < length tier.servers → s < length ss
  below-servers s below = subst (λ n. s < n) (ap (λ t. length t.servers) (sym view) ∙ length-map ss server_state) below

  pub state-there : (s : ℕ) (server : Server) → s < length ss → server ≡ get_or ss s server → slice_get tier.servers s ≡ Some (server_state server)
  state-there s server below is = ap (λ t. slice_get t.servers s) (sym view) ∙ there server_state ss s server below is

  -- one server pulled, and so the tier has its next state in its place
  pub pulled-there : (s : ℕ) (server next : Server) (mutations : List Mutation) → s < length ss → server ≡ get_or ss s server → IsTier splits window ss →
      server_state next ≡ absorb window (owner_of server) mutations (server_state server) → (owner : Owned) (old : ServerState) → slice_get (owners tier.splits) s ≡ Some owner →
      slice_get tier.servers s ≡ Some old →
      ◌≡◌ {A = TierState} (record { splits = splits; window = window; servers = map server_state (slice_set ss s next) })
      (record { splits = tier.splits; window = tier.window; servers = slice_set tier.servers s (absorb tier.window owner mutations old) })
  pulled-there s server next mutations below is ok done owner old owned stood =
      let mine : Some (owner_of server) ≡ Some owner =
      sym (there owner_of ss s server below is) ∙ ap (λ os. slice_get os s) ok.parts ∙ ap (λ t. slice_get (owners t.splits) s) view ∙ owned in
      let mine' : owner_of server ≡ owner = cc in
      let was : Some (server_state server) ≡ Some old = sym (state-there s server below is) ∙ stood in
      let was' : server_state server ≡ old = cc in
      let after : server_state next ≡ absorb window owner mutations old = done ∙ (λ i. absorb window (mine' i) mutations (was' i)) in
      let set : map server_state (slice_set ss s next) ≡ slice_set (map server_state ss) s (absorb window owner mutations old) = map-set server_state ss s next ∙ ap (slice_set (map server_state ss) s) after in
      let first : ◌≡◌ {A = TierState} (tier_with splits window (map server_state (slice_set ss s next))) (tier_with splits window (slice_set (map server_state ss) s (absorb window owner mutations old))) =
      ap (tier_with splits window) set in
      first ∙ ap (λ t. tier_with t.splits t.window (slice_set t.servers s (absorb t.window owner mutations old))) view

  pub unpulled-there : (s : ℕ) (server next : Server) → server ≡ get_or ss s server → server_state next ≡ server_state server →
      ◌≡◌ {A = TierState} (record { splits = splits; window = window; servers = map server_state (slice_set ss s next) }) tier
  unpulled-there s server next is same = ap (tier_with splits window) (map-set_same server_state ss s next server (same ∙ ap server_state is)) ∙ view
