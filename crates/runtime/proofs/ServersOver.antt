-- Servers that begin over a base: their maps together are those that their log makes of it.
use Rattle.std.proofs.Common.{◌≡◌, ℕ, zero, suc, ◌+◌, ◌-◌, ◌<◌, ◌≤◌, cond, None, Some, unwrap_or, List, [], ◌∷◌, length, map, take, inl, inr, refl, sym, ap, subst, ◌∙◌, arith, add-one}
use Rattle.std.proofs.lemmas.Bool.{cases_eq}
use Rattle.std.proofs.lemmas.Cmp.{nat_list_cmp_total}
use Rattle.std.proofs.lemmas.List.{length-map}
use Rattle.std.specs.FinMap.{empty, entries, find, get, get-entries, get-from_entries}
use Rattle.std.specs.List.{flat_map, list_any, slice_get}
use Rattle.std.specs.Option.{option_or}
use Rattle.kv_core.specs.Bytes.{key_cmp}
use Rattle.kv_core.specs.Map.{Map, after_all}
use Rattle.kv_core.specs.declared.change.CommitRequest.{CommitRequest}
use Rattle.kv_core.specs.declared.change.Mutation.{Mutation}
use Rattle.kv_core.proofs.Changes.{get-kept, same_maps}
use Rattle.cluster_core.specs.declared.answers.Config.{Config}
use Rattle.cluster_core.specs.Configuration.{first_server_over, first_tier, first_tier_over}
use Rattle.cluster_core.specs.Decision.{Owned, committed, is_committed, logged, numbered, owners, owns}
use Rattle.cluster_core.specs.Decision as decision
use Rattle.cluster_core.specs.History.{map_over}
use Rattle.cluster_core.specs.Tier.{Makes, ServerState, TierState, absorb, absorb_each, after_log, map_of, oldest, part, whole_map}
use Rattle.cluster_core.proofs.LogMaps.{base_before, log_makes_history}
use Rattle.cluster_core.proofs.Ownership.{some_owner}
use Rattle.cluster_core.proofs.StorageMaps.{either, find-append, part-after_all, part-empty}
use Rattle.schedule.proofs.Submitting.{numbered_length}

-- ---- servers over the empty map are those of an empty database

servers_first : (start : ℕ) (os : List Owned) → ◌≡◌ {A = List ServerState} (map (λ (_ : Owned). record { version = start; maps = empty ∷ [] }) os) (map (first_server_over empty start) os)
servers_first start [] = refl
servers_first start (o ∷ os) = λ i. (record { version = start; maps = sym (part-empty o) i ∷ [] }) ∷ servers_first start os i

pub tier_first : (config : Config) → first_tier config ≡ first_tier_over empty config
tier_first config = λ i. record { splits = config.storage_splits; window = config.window; servers = servers_first config.start (owners config.storage_splits) i }

-- ---- servers that absorb a log

get_take : {X : Type 0} (n k : ℕ) (xs : List X) → k < n → slice_get (take n xs) k ≡ slice_get xs k
get_take zero k xs h = absurd (omega arith)
get_take (suc n) k [] h = refl
get_take (suc n) zero (x ∷ xs) h = refl
get_take (suc n) (suc k) (x ∷ xs) h = get_take n k xs (omega (arith, h))

module _ (window start : ℕ) (maps : ℕ → Map) where
  -- a server stands at this version, with its part of each map as far back as the window
  record Follows (owner : Owned) (server : ServerState) (now : ℕ) : Type 0 where
    at : server.version ≡ now
    there : (v : ℕ) → start ≤ v → v ≤ now → now - v ≤ window → slice_get server.maps (server.version - v) ≡ Some (part owner (maps v))

  has : (owner : Owned) (server : ServerState) (now : ℕ) → Follows owner server now → (v : ℕ) → start ≤ v → v ≤ now → now - v ≤ window → map_of server v ≡ part owner (maps v)
  has owner server now f v from upto near = ap (λ o. unwrap_or o (oldest server.maps)) (f.there v from upto near)

  abbrev AllFollow : List Owned → List ServerState → ℕ → Type 0
  AllFollow [] [] now = Unit {0}
  AllFollow [] (s ∷ ss) now = ⊥
  AllFollow (o ∷ os) [] now = ⊥
  AllFollow (o ∷ os) (s ∷ ss) now = Follows o s now × AllFollow os ss now

  follows_next : (owner : Owned) (server : ServerState) (now : ℕ) (cs : List Mutation) → start ≤ now → maps (now + 1) ≡ after_all cs (maps now) →
      Follows owner server now → Follows owner (absorb window owner cs server) (now + 1)
  follows_next owner server now cs le makes f = record {
    at = ap (λ n. n + 1) f.at;
    there = λ v from upto near. elim (cases_eq v (now + 1)) [
      | inl newest ↦ first v newest
      | inr older ↦ later v from (omega (arith, upto, older)) (omega (arith, near))
    ];
  }
    where
      fresh_is : part owner (after_all cs (map_of server server.version)) ≡ part owner (maps (now + 1))
      fresh_is =
          let here : map_of server server.version ≡ part owner (maps now) = ap (map_of server) f.at ∙ has owner server now f now le (omega arith) (omega arith) in
          ap (λ m. part owner (after_all cs m)) here ∙ part-after_all owner cs (maps now) ∙ ap (part owner) (sym makes)

      front : take (window + 1) (part owner (after_all cs (map_of server server.version)) ∷ server.maps) ≡ part owner (after_all cs (map_of server server.version)) ∷ take window server.maps
      front = ap (λ n. take n (part owner (after_all cs (map_of server server.version)) ∷ server.maps)) (add-one window)

      first : (v : ℕ) → v ≡ now + 1 → slice_get (absorb window owner cs server).maps ((server.version + 1) - v) ≡ Some (part owner (maps v))
      first v newest =
          let none : (server.version + 1) - v ≡ 0 = omega (arith, f.at, newest) in
          ap (λ xs. slice_get xs ((server.version + 1) - v)) front
          ∙ ap (slice_get (part owner (after_all cs (map_of server server.version)) ∷ take window server.maps)) none
          ∙ ap Some (fresh_is ∙ ap (λ n. part owner (maps n)) (sym newest))

      later : (v : ℕ) → start ≤ v → v ≤ now → (now + 1) - v ≤ window → slice_get (absorb window owner cs server).maps ((server.version + 1) - v) ≡ Some (part owner (maps v))
      later v from upto near =
          let back : (server.version + 1) - v ≡ suc (server.version - v) = omega (arith, f.at, upto) in
          let close : server.version - v < window = omega (arith, f.at, upto, near) in
          ap (λ xs. slice_get xs ((server.version + 1) - v)) front
          ∙ ap (slice_get (part owner (after_all cs (map_of server server.version)) ∷ take window server.maps)) back
          ∙ get_take window (server.version - v) server.maps close
          ∙ f.there v from upto (omega (arith, near))

  follow_next : (os : List Owned) (ss : List ServerState) (now : ℕ) (cs : List Mutation) → start ≤ now → maps (now + 1) ≡ after_all cs (maps now) →
      AllFollow os ss now → AllFollow os (absorb_each window cs os ss) (now + 1)
  follow_next [] [] now cs le makes a = tt
  follow_next [] (s ∷ ss) now cs le makes a = absurd a
  follow_next (o ∷ os) [] now cs le makes a = absurd a
  follow_next (o ∷ os) (s ∷ ss) now cs le makes a = (follows_next o s now cs le makes a.0, follow_next os ss now cs le makes a.1)

  follow_first : (base : Map) (os : List Owned) → maps start ≡ base → AllFollow os (map (first_server_over base start) os) start
  follow_first base [] e = tt
  follow_first base (o ∷ os) e = (
    record {
      at = refl;
      there = λ v from upto near.
          let same : start - v ≡ 0 = omega (arith, from, upto) in
          let there : v ≡ start = omega (arith, from, upto) in
          ap (slice_get (part o base ∷ [])) same ∙ ap Some (ap (part o) (sym e) ∙ ap (λ n. part o (maps n)) (sym there));
    },
    follow_first base os e,
  )

  -- the servers' maps, one after another, have each key at its owner
  find_whole : (os : List Owned) (ss : List ServerState) (now v : ℕ) (q : List ℕ) → start ≤ v → v ≤ now → now - v ≤ window → AllFollow os ss now →
      find key_cmp q (flat_map (λ s. entries (map_of s v)) ss) ≡ cond (list_any (λ o. owns o q) os) (get (maps v) q) None
  find_whole [] [] now v q from upto near a = refl
  find_whole [] (s ∷ ss) now v q from upto near a = absurd a
  find_whole (o ∷ os) [] now v q from upto near a = absurd a
  find_whole (o ∷ os) (s ∷ ss) now v q from upto near a =
      find-append q (entries (map_of s v)) (flat_map (λ s. entries (map_of s v)) ss)
      ∙ (λ i. option_or (
      (sym (get-entries (map_of s v) q) ∙ ap (λ m. get m q) (has o s now a.0 v from upto near) ∙ get-kept (maps v) (owns o) q) i)
      (find_whole os ss now v q from upto near a.1 i))
      ∙ either (owns o q) (list_any (λ o. owns o q) os) (get (maps v) q)

module _ (splits : List (List ℕ)) (window start : ℕ) (maps : ℕ → Map) where
  abbrev tier : List ServerState → TierState
  tier ss = record { splits = splits; window = window; servers = ss }

  follow_log : (log : List (List Mutation)) (ss : List ServerState) (now : ℕ) → start ≤ now → Makes maps now log → AllFollow window start maps (owners splits) ss now →
      AllFollow window start maps (owners splits) ((after_log log (tier ss)).servers) (now + length log)
  follow_log [] ss now le makes a = let e : now ≡ now + 0 = omega arith in subst (AllFollow window start maps (owners splits) ss) e a
  follow_log (cs ∷ log) ss now le makes a =
      let e : (now + 1) + length log ≡ now + suc (length log) = omega arith in
      subst (AllFollow window start maps (owners splits) ((after_log log (tier (absorb_each window cs (owners splits) ss))).servers)) e
      (follow_log log (absorb_each window cs (owners splits) ss) (now + 1) (omega (arith, le)) makes.1 (follow_next window start maps (owners splits) ss now cs le makes.0 a))

-- whatever log servers over a base have absorbed, within the window their maps together are those that it makes
pub tier_follows_over : (base : Map) (config : Config) (log : List (List Mutation)) (maps : ℕ → Map) → maps config.start ≡ base → Makes maps config.start log → (version : ℕ) → config.start ≤ version → version ≤ config.start + length log →
    (config.start + length log) - version ≤ config.window → whole_map (after_log log (first_tier_over base config)) version ≡ maps version
tier_follows_over base config log maps begins makes version from upto near =
    let ss = (first_tier_over base config).servers in
    let all : AllFollow config.window config.start maps (owners config.storage_splits) ((after_log log (first_tier_over base config)).servers) (config.start + length log) =
    follow_log config.storage_splits config.window config.start maps log ss config.start (omega arith) makes
    (follow_first config.window config.start maps base (owners config.storage_splits) begins) in
    same_maps (whole_map (after_log log (first_tier_over base config)) version) (maps version) (λ q.
    get-from_entries nat_list_cmp_total (flat_map (λ s. entries (map_of s version)) ((after_log log (first_tier_over base config)).servers)) q
    ∙ find_whole config.window config.start maps (owners config.storage_splits) ((after_log log (first_tier_over base config)).servers) (config.start + length log) version q from upto near all
    ∙ ap (λ b. cond b (get (maps version) q) None) (some_owner config.storage_splits q))

-- so they have the database's map, once they have absorbed what the logs have of some requests
pub tier_has_base : (base : Map) (config : Config) (requests : List CommitRequest) (version : ℕ) → config.start ≤ version → version ≤ config.start + length requests → (config.start + length requests) - version ≤ config.window →
    let es = numbered config.start requests in whole_map (after_log (decision.log config.resolver_splits es) (first_tier_over base config)) version ≡ map_over base (committed config.resolver_splits es) version
tier_has_base base config requests version from upto near =
    let es = numbered config.start requests in
    let same : length (decision.log config.resolver_splits es) ≡ length requests = length-map es (logged (is_committed config.resolver_splits es)) ∙ numbered_length config.start requests in
    tier_follows_over base config (decision.log config.resolver_splits es) (map_over base (committed config.resolver_splits es))
    (base_before base config.resolver_splits config.start requests config.start (omega arith)) (log_makes_history base config.resolver_splits config.start requests)
    version from (omega (arith, same, upto)) (omega (arith, same, near))
