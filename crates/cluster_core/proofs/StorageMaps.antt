-- The servers' maps together are the maps that their log makes.
use Rattle.std.proofs.Common.{◌≡◌, ℕ, zero, suc, ◌+◌, ◌-◌, ◌<◌, ◌≤◌, Bool, true, false, cond, ◌||◌, Option, None, Some, unwrap_or, List, [], ◌∷◌, ◌++◌, length, take, map, inl, inr, refl, sym, ap, subst, ◌∙◌, arith, add-one}
use Rattle.std.proofs.lemmas.Bool.{cases_eq}
use Rattle.std.proofs.lemmas.Cmp.{nat_list_cmp_total}
use Rattle.std.specs.List.{slice_get, list_any, flat_map}
use Rattle.std.specs.Option.{option_or}
use Rattle.std.specs.Ordering.{eq_by_cmp}
use Rattle.std.specs.FinMap.{empty, get, entries, find, get-entries, get-empty, get-from_entries}
use Rattle.kv_core.specs.Bytes.{key_cmp}
use Rattle.kv_core.specs.Map.{Map, after_all, value_after_all}
use Rattle.kv_core.specs.declared.change.Mutation.{Mutation}
use Rattle.kv_core.proofs.Changes.{get-kept, same_maps, get-after_all-value}
use Rattle.cluster_core.specs.Decision.{Owned, owners, owns}
use Rattle.cluster_core.specs.Tier.{ServerState, TierState, oldest, part, map_of, absorb, absorb_each, whole_map, after_log, Makes}
use Rattle.cluster_core.specs.Configuration.{first_tier, TierFollowsLog}
use Rattle.cluster_core.proofs.Ownership.{some_owner}

cond_same : (b : Bool) (x y : Option (List ℕ)) → (b ≡ true → x ≡ y) → cond b x None ≡ cond b y None
cond_same true x y e = e refl
cond_same false x y e = refl

-- to change a part and take the part again is to take the part of the changed map
pub part-after_all : (owner : Owned) (cs : List Mutation) (m : Map) → part owner (after_all cs (part owner m)) ≡ part owner (after_all cs m)
part-after_all owner cs m =
    same_maps _ _ (λ q.
    get-kept (after_all cs (part owner m)) (owns owner) q
    ∙ cond_same (owns owner q) (get (after_all cs (part owner m)) q) (get (after_all cs m) q)
    (λ own. get-after_all-value cs (part owner m) q ∙ ap (value_after_all cs q) (get-kept m (owns owner) q ∙ ap (λ b. cond b (get m q) None) own) ∙ sym (get-after_all-value cs m q))
    ∙ sym (get-kept (after_all cs m) (owns owner) q))

pub part-empty : (owner : Owned) → part owner empty ≡ empty
part-empty owner = same_maps _ _ (λ q. get-kept empty (owns owner) q ∙ ap (λ o. cond (owns owner q) o None) (get-empty key_cmp q) ∙ nothing (owns owner q) ∙ sym (get-empty key_cmp q))
  where
    nothing : (b : Bool) → ◌≡◌ {A = Option (List ℕ)} (cond b None None) None
    nothing true = refl
    nothing false = refl

slice_get-take : {X : Type 0} (n k : ℕ) (xs : List X) → k < n → slice_get (take n xs) k ≡ slice_get xs k
slice_get-take zero k xs h = absurd (omega arith)
slice_get-take (suc n) k [] h = refl
slice_get-take (suc n) zero (x ∷ xs) h = refl
slice_get-take (suc n) (suc k) (x ∷ xs) h = slice_get-take n k xs (omega (arith, h))

-- a look-up in two lists
pub find-append : (q : List ℕ) (xs ys : List (List ℕ × List ℕ)) → find key_cmp q (xs ++ ys) ≡ option_or (find key_cmp q xs) (find key_cmp q ys)
find-append q [] ys = refl
find-append q (x ∷ xs) ys =
    elim (eq_by_cmp key_cmp q x.0) as (λ b. cond b (Some x.1) (find key_cmp q (xs ++ ys)) ≡ option_or (cond b (Some x.1) (find key_cmp q xs)) (find key_cmp q ys)) [
      | true ↦ refl
      | false ↦ find-append q xs ys
    ]

pub either : (a b : Bool) (o : Option (List ℕ)) → option_or (cond a o None) (cond b o None) ≡ cond (a || b) o None
either true true None = refl
either true false None = refl
either true true (Some x) = refl
either true false (Some x) = refl
either false b o = refl

module _ (window start : ℕ) (maps : ℕ → Map) where
  -- a server stands at this version, with its part of each map as far back as the window
  record Follows (owner : Owned) (server : ServerState) (now : ℕ) : Type 0 where
    at : server.version ≡ now
    there : (v : ℕ) → start ≤ v → v ≤ now → now - v ≤ window → slice_get server.maps (server.version - v) ≡ Some (part owner (maps v))

  has : (owner : Owned) (server : ServerState) (now : ℕ) → Follows owner server now → (v : ℕ) → start ≤ v → v ≤ now → now - v ≤ window → map_of server v ≡ part owner (maps v)
  has owner server now f v from upto near = ap (λ o. unwrap_or o (oldest server.maps)) (f.there v from upto near)

  abbrev AllFollow : List Owned → List ServerState → ℕ → Type 0
  AllFollow [] [] now = Unit {0}
  AllFollow [] (s ∷ ss) now = ⊥
  AllFollow (o ∷ os) [] now = ⊥
  AllFollow (o ∷ os) (s ∷ ss) now = Follows o s now × AllFollow os ss now

  follows-absorb : (owner : Owned) (server : ServerState) (now : ℕ) (cs : List Mutation) → start ≤ now → maps (now + 1) ≡ after_all cs (maps now) →
      Follows owner server now → Follows owner (absorb window owner cs server) (now + 1)
  follows-absorb owner server now cs le makes f = record {
    at = ap (λ n. n + 1) f.at;
    there = λ v from upto near. elim (cases_eq v (now + 1)) [
      | inl newest ↦ first v newest
      | inr older ↦ later v from (omega (arith, upto, older)) (omega (arith, near))
    ];
  }
    where
      fresh_is : part owner (after_all cs (map_of server server.version)) ≡ part owner (maps (now + 1))
      fresh_is =
          let here : map_of server server.version ≡ part owner (maps now) = ap (map_of server) f.at ∙ has owner server now f now le (omega arith) (omega arith) in
          ap (λ m. part owner (after_all cs m)) here ∙ part-after_all owner cs (maps now) ∙ ap (part owner) (sym makes)

      front : take (window + 1) (part owner (after_all cs (map_of server server.version)) ∷ server.maps) ≡ part owner (after_all cs (map_of server server.version)) ∷ take window server.maps
      front = ap (λ n. take n (part owner (after_all cs (map_of server server.version)) ∷ server.maps)) (add-one window)

      first : (v : ℕ) → v ≡ now + 1 → slice_get (absorb window owner cs server).maps ((server.version + 1) - v) ≡ Some (part owner (maps v))
      first v newest =
          let none : (server.version + 1) - v ≡ 0 = omega (arith, f.at, newest) in
          ap (λ xs. slice_get xs ((server.version + 1) - v)) front
          ∙ ap (slice_get (part owner (after_all cs (map_of server server.version)) ∷ take window server.maps)) none
          ∙ ap Some (fresh_is ∙ ap (λ n. part owner (maps n)) (sym newest))

      later : (v : ℕ) → start ≤ v → v ≤ now → (now + 1) - v ≤ window → slice_get (absorb window owner cs server).maps ((server.version + 1) - v) ≡ Some (part owner (maps v))
      later v from upto near =
          let back : (server.version + 1) - v ≡ suc (server.version - v) = omega (arith, f.at, upto) in
          let close : server.version - v < window = omega (arith, f.at, upto, near) in
          ap (λ xs. slice_get xs ((server.version + 1) - v)) front
          ∙ ap (slice_get (part owner (after_all cs (map_of server server.version)) ∷ take window server.maps)) back
          ∙ slice_get-take window (server.version - v) server.maps close
          ∙ f.there v from upto (omega (arith, near))

  follow-absorb : (os : List Owned) (ss : List ServerState) (now : ℕ) (cs : List Mutation) → start ≤ now → maps (now + 1) ≡ after_all cs (maps now) →
      AllFollow os ss now → AllFollow os (absorb_each window cs os ss) (now + 1)
  follow-absorb [] [] now cs le makes a = tt
  follow-absorb [] (s ∷ ss) now cs le makes a = absurd a
  follow-absorb (o ∷ os) [] now cs le makes a = absurd a
  follow-absorb (o ∷ os) (s ∷ ss) now cs le makes a = (follows-absorb o s now cs le makes a.0, follow-absorb os ss now cs le makes a.1)

  follow-first : (os : List Owned) → maps start ≡ empty → AllFollow os (map (λ _. record { version = start; maps = empty ∷ [] }) os) start
  follow-first [] e = tt
  follow-first (o ∷ os) e = (
    record {
      at = refl;
      there = λ v from upto near.
          let same : start - v ≡ 0 = omega (arith, from, upto) in
          let there : v ≡ start = omega (arith, from, upto) in
          ap (slice_get (empty ∷ [])) same ∙ ap Some (sym (part-empty o) ∙ ap (part o) (sym e) ∙ ap (λ n. part o (maps n)) (sym there));
    },
    follow-first os e,
  )

  -- the servers' maps, one after another, have each key at its owner
  find-whole : (os : List Owned) (ss : List ServerState) (now v : ℕ) (q : List ℕ) → start ≤ v → v ≤ now → now - v ≤ window → AllFollow os ss now →
      find key_cmp q (flat_map (λ s. entries (map_of s v)) ss) ≡ cond (list_any (λ o. owns o q) os) (get (maps v) q) None
  find-whole [] [] now v q from upto near a = refl
  find-whole [] (s ∷ ss) now v q from upto near a = absurd a
  find-whole (o ∷ os) [] now v q from upto near a = absurd a
  find-whole (o ∷ os) (s ∷ ss) now v q from upto near a =
      find-append q (entries (map_of s v)) (flat_map (λ s. entries (map_of s v)) ss)
      ∙ (λ i. option_or (
      (sym (get-entries (map_of s v) q) ∙ ap (λ m. get m q) (has o s now a.0 v from upto near) ∙ get-kept (maps v) (owns o) q) i)
      (find-whole os ss now v q from upto near a.1 i))
      ∙ either (owns o q) (list_any (λ o. owns o q) os) (get (maps v) q)

module _ (splits : List (List ℕ)) (window start : ℕ) (maps : ℕ → Map) where
  abbrev tier : List ServerState → TierState
  tier ss = record { splits = splits; window = window; servers = ss }

  follow-log : (log : List (List Mutation)) (ss : List ServerState) (now : ℕ) → start ≤ now → Makes maps now log → AllFollow window start maps (owners splits) ss now →
      AllFollow window start maps (owners splits) ((after_log log (tier ss)).servers) (now + length log)
  follow-log [] ss now le makes a = let e : now ≡ now + 0 = omega arith in subst (AllFollow window start maps (owners splits) ss) e a
  follow-log (cs ∷ log) ss now le makes a =
      let e : (now + 1) + length log ≡ now + suc (length log) = omega arith in
      subst (AllFollow window start maps (owners splits) ((after_log log (tier (absorb_each window cs (owners splits) ss))).servers)) e
      (follow-log log (absorb_each window cs (owners splits) ss) (now + 1) (omega (arith, le)) makes.1 (follow-absorb window start maps (owners splits) ss now cs le makes.0 a))

pub tier_follows_log : TierFollowsLog
tier_follows_log config log maps begins makes version from upto near =
    let ss = (first_tier config).servers in
    let all : AllFollow config.window config.start maps (owners config.storage_splits) ((after_log log (first_tier config)).servers) (config.start + length log) =
    follow-log config.storage_splits config.window config.start maps log ss config.start (omega arith) makes
    (follow-first config.window config.start maps (owners config.storage_splits) begins) in
    same_maps (whole_map (after_log log (first_tier config)) version) (maps version) (λ q.
    get-from_entries nat_list_cmp_total (flat_map (λ s. entries (map_of s version)) ((after_log log (first_tier config)).servers)) q
    ∙ find-whole config.window config.start maps (owners config.storage_splits) ((after_log log (first_tier config)).servers) (config.start + length log) version q from upto near all
    ∙ ap (λ b. cond b (get (maps version) q) None) (some_owner config.storage_splits q))
