-- What the servers of a cluster have, as far as they have pulled the logs.
use Rattle.std.proofs.Common.{arith, ◌≡◌, ℕ, zero, suc, ◌+◌, ◌-◌, ◌≤◌, min, Bool, true, false, cond, nat_lt, add-one, Option, None, Some, unwrap_or, List, [], ◌∷◌, length, take, inl, inr, refl, sym, ap, ◌∙◌}
use Rattle.std.proofs.lemmas.Bool.{true≢false, cases_Bool, cases_lt, ltb-false}
use Rattle.std.proofs.lemmas.Cmp.{nat_list_cmp_total}
use Rattle.std.specs.FinMap.{empty, entries, find, get, get-entries, get-from_entries}
use Rattle.std.specs.List.{AllByRecursion, flat_map, list_any, slice_get, slice_set}
use Rattle.std.specs.Option.{option_or}
use Rattle.kv_core.specs.Bytes.{key_cmp}
use Rattle.kv_core.specs.Map.{Map, after_all}
use Rattle.kv_core.specs.Range.{KeyRange, contains, has_keys}
use Rattle.kv_core.specs.Read.{limited, read_of}
use Rattle.kv_core.specs.declared.change.Mutation.{Mutation}
use Rattle.kv_core.proofs.Changes.{get-kept, pairs_in-same}
use Rattle.cluster_core.specs.Cuts.{has_keys-own}
use Rattle.cluster_core.specs.Cluster.{ClusterState, database_at, maps_back, server_at, servers_at, tier_of}
use Rattle.cluster_core.specs.Decision.{Owned, cut, log, owners, owns}
use Rattle.cluster_core.specs.History.{map_over}
use Rattle.cluster_core.specs.Roles.{PipelineState, entries as requested, history}
use Rattle.cluster_core.specs.Server.{maps_down}
use Rattle.cluster_core.specs.Tier.{Makes, absorb, first_refusal, map_of, oldest, part, refusal, refusal_of, whole_map}
use Rattle.kv_core.specs.declared.snapshot.ReadError.{ReadError}
use Rattle.kv_core.specs.declared.snapshot.ReadError.TheVariants.{FutureVersion, TooOld}
use Rattle.cluster_core.proofs.LogMaps.{base_before, log_makes_history}
use Rattle.cluster_core.proofs.Ownership.{some_owner}
use Rattle.cluster_core.proofs.OwnMaps.{none_elsewhere, own-map_of, part-part}
use Rattle.cluster_core.proofs.ServerMaps.{down_at, down_first, down_past, oldest_down, take_down}
use Rattle.cluster_core.proofs.StorageMaps.{either, find-append, part-after_all, part-empty}

-- the mutations of a log lead from each map that it makes to the next one
makes-at : (maps : ℕ → Map) (from : ℕ) (log : List (List Mutation)) (place : ℕ) (mutations : List Mutation) → Makes maps from log → slice_get log place ≡ Some mutations →
    maps (from + place + 1) ≡ after_all mutations (maps (from + place))
makes-at maps from [] place mutations makes is = cc
makes-at maps from (first ∷ log) zero mutations makes is =
    let same : first ≡ mutations = cc in
    let here : from + 0 ≡ from = omega arith in
    ap (λ n. maps (n + 1)) here ∙ makes.0 ∙ (λ i. after_all (same i) (maps (sym here i)))
makes-at maps from (first ∷ log) (suc place) mutations makes is =
    let next : from + suc place ≡ (from + 1) + place = omega arith in
    ap (λ n. maps (n + 1)) next ∙ makes-at maps (from + 1) log place mutations makes.1 is ∙ ap (λ n. after_all mutations (maps n)) (sym next)

module _ (base : Map) (p : PipelineState) where
  -- the map of the database at a version
  abbrev map_then : ℕ → Map
  map_then version = map_over base (history p) version

  -- they are maps from a version down
  down : (owner : Owned) (version count : ℕ) → maps_back base p owner version count ≡ maps_down (λ v. part owner (map_then v)) version count
  down owner version zero = refl
  down owner version (suc count) = ap (λ ms. part owner (map_then version) ∷ ms) (down owner (version - 1) count)

  -- the map of the next version in front, and those beyond the window dropped
  next-back : (owner : Owned) (clock window back : ℕ) →
      part owner (map_then (clock + 1)) ∷ take window (maps_back base p owner clock (min window back)) ≡ maps_back base p owner (clock + 1) (min window (back + 1))
  next-back owner clock zero back = let none : min 0 (back + 1) ≡ 0 = omega arith in sym (ap (maps_back base p owner (clock + 1)) none)
  next-back owner clock (suc window) back =
      let more : min (suc window) (back + 1) ≡ suc (min window back) = omega arith in
      let less : min window (min (suc window) back) ≡ min window back = omega arith in
      let before : clock ≡ (clock + 1) - 1 = omega arith in
      ap (λ ms. part owner (map_then (clock + 1)) ∷ ms)
      (ap (take (suc window)) (down owner clock (min (suc window) back)) ∙ take_down (λ v. part owner (map_then v)) clock window (min (suc window) back)
      ∙ sym (down owner clock (min window (min (suc window) back))) ∙ ap (maps_back base p owner clock) less ∙ ap (λ n. maps_back base p owner n (min window back)) before)
      ∙ sym (ap (maps_back base p owner (clock + 1)) more)

  -- a server that absorbs what its log has of the next version has what it is to have
  pub absorb-next : (owner : Owned) (clock : ℕ) (mutations : List Mutation) → p.start ≤ clock → slice_get (log p.splits (requested p)) (clock - p.start) ≡ Some mutations →
      absorb p.window owner mutations (server_at base p owner clock) ≡ server_at base p owner (clock + 1)
  absorb-next owner clock mutations from is =
      let count = min p.window (clock - p.start) in
      let place : p.start + (clock - p.start) ≡ clock = omega (arith, from) in
      let none : clock - clock ≡ 0 = omega arith in
      let newest : map_of (server_at base p owner clock) clock ≡ part owner (map_then clock) =
      ap (λ n. unwrap_or (slice_get (maps_back base p owner clock count) n) (oldest (maps_back base p owner clock count))) none
      ∙ ap (λ ms. unwrap_or (slice_get ms 0) (oldest ms)) (down owner clock count)
      ∙ ap (λ o. unwrap_or o (oldest (maps_down (λ v. part owner (map_then v)) clock count))) (down_first (λ v. part owner (map_then v)) clock count) in
      let next : map_then (clock + 1) ≡ after_all mutations (map_then clock) =
      ap (λ n. map_then (n + 1)) (sym place) ∙ makes-at map_then p.start (log p.splits (requested p)) (clock - p.start) mutations (log_makes_history base p.splits p.start p.requests) is
      ∙ ap (λ n. after_all mutations (map_then n)) place in
      let fresh : part owner (after_all mutations (map_of (server_at base p owner clock) clock)) ≡ part owner (map_then (clock + 1)) =
      ap (λ m. part owner (after_all mutations m)) newest ∙ part-after_all owner mutations (map_then clock) ∙ ap (part owner) (sym next) in
      let back : (clock + 1) - p.start ≡ (clock - p.start) + 1 = omega (arith, from) in
      let maps : take (p.window + 1) (part owner (after_all mutations (map_of (server_at base p owner clock) clock)) ∷ maps_back base p owner clock count) ≡ maps_back base p owner (clock + 1) (min p.window ((clock + 1) - p.start)) =
      ap (λ m. take (p.window + 1) (m ∷ maps_back base p owner clock count)) fresh
      ∙ ap (λ n. take n (part owner (map_then (clock + 1)) ∷ maps_back base p owner clock count)) (add-one p.window)
      ∙ next-back owner clock p.window (clock - p.start) ∙ sym (ap (λ n. maps_back base p owner (clock + 1) (min p.window n)) back) in
      λ i. record { version = clock + 1; maps = maps i }

  -- one clock further, one server further
  pub server-there : (os : List Owned) (clocks : List ℕ) (s : ℕ) (owner : Owned) (clock : ℕ) → slice_get os s ≡ Some owner → slice_get clocks s ≡ Some clock →
      slice_get (servers_at base p os clocks) s ≡ Some (server_at base p owner clock)
  server-there [] clocks s owner clock own at = cc
  server-there (o ∷ os) [] s owner clock own at = cc
  server-there (o ∷ os) (c ∷ clocks) zero owner clock own at =
      let same : o ≡ owner = cc in
      let now : c ≡ clock = cc in
      λ i. Some (server_at base p (same i) (now i))
  server-there (o ∷ os) (c ∷ clocks) (suc s) owner clock own at = server-there os clocks s owner clock own at

  pub servers-raised : (os : List Owned) (clocks : List ℕ) (s : ℕ) (owner : Owned) (clock : ℕ) → slice_get os s ≡ Some owner → slice_get clocks s ≡ Some clock →
      slice_set (servers_at base p os clocks) s (server_at base p owner (clock + 1)) ≡ servers_at base p os (slice_set clocks s (clock + 1))
  servers-raised [] clocks s owner clock own at = cc
  servers-raised (o ∷ os) [] s owner clock own at = cc
  servers-raised (o ∷ os) (c ∷ clocks) zero owner clock own at = let same : o ≡ owner = cc in λ i. server_at base p (sym same i) (clock + 1) ∷ servers_at base p os clocks
  servers-raised (o ∷ os) (c ∷ clocks) (suc s) owner clock own at = ap (λ ss. server_at base p o c ∷ ss) (servers-raised os clocks s owner clock own at)

  -- within the window a server has its part of the database
  map-then : (owner : Owned) (clock version : ℕ) → p.start ≤ clock → version ≤ clock → clock - version ≤ p.window → map_of (server_at base p owner clock) version ≡ part owner (map_then version)
  map-then owner clock version from upto near =
      let count = min p.window (clock - p.start) in
      elim (cases_lt count (clock - version)) [
        | inl past ↦
            let before : version ≤ p.start = omega (arith, past, near, from, upto) in
            let low : clock - count ≤ p.start = omega (arith, past, near, from, upto) in
            ap (λ ms. unwrap_or (slice_get ms (clock - version)) (oldest ms)) (down owner clock count)
            ∙ ap (λ o. unwrap_or o (oldest (maps_down (λ v. part owner (map_then v)) clock count))) (down_past (λ v. part owner (map_then v)) clock count (clock - version) past)
            ∙ oldest_down (λ v. part owner (map_then v)) clock count
            ∙ ap (part owner) (base_before base p.splits p.start p.requests (clock - count) low ∙ sym (base_before base p.splits p.start p.requests version before))
        | inr has ↦
            let here : clock - (clock - version) ≡ version = omega (arith, upto) in
            ap (λ ms. unwrap_or (slice_get ms (clock - version)) (oldest ms)) (down owner clock count)
            ∙ ap (λ o. unwrap_or o (oldest (maps_down (λ v. part owner (map_then v)) clock count))) (down_at (λ v. part owner (map_then v)) clock count (clock - version) has) ∙ ap (λ v. part owner (map_then v)) here
      ]

  own-back : (owner : Owned) (version count : ℕ) → AllByRecursion (λ m. part owner m ≡ m) (maps_back base p owner version count)
  own-back owner version zero = (part-part owner (map_then version), tt)
  own-back owner version (suc count) = (part-part owner (map_then version), own-back owner (version - 1) count)

  -- what a server that doesn't refuse a read has at a key of the range
  module _ (range : KeyRange) (version : ℕ) (q : List ℕ) (inside : contains range q ≡ true) where
    none_refused : (a : Bool) (r rest : Option ReadError) → cond a (option_or r rest) rest ≡ None → (a ≡ true → r ≡ None) × (rest ≡ None)
    none_refused true None rest h = (λ _. refl, h)
    none_refused true (Some e) rest h = cc
    none_refused false r rest h = (λ t. absurd (true≢false (sym t)), h)

    answers : (window clock : ℕ) → cond (nat_lt clock version) (Some FutureVersion) (cond (nat_lt window (clock - version)) (Some TooOld) None) ≡ None →
        (version ≤ clock) × (clock - version ≤ window)
    answers window clock h = by (nat_lt clock version) (nat_lt window (clock - version)) refl refl h
      where
        by : (a b : Bool) → nat_lt clock version ≡ a → nat_lt window (clock - version) ≡ b → cond a (Some FutureVersion) (cond b (Some TooOld) None) ≡ None →
            (version ≤ clock) × (clock - version ≤ window)
        by true b later old h = cc
        by false true later old h = cc
        by false false later old h = (ltb-false clock version later, ltb-false window (clock - version) old)

    key-at : (owner : Owned) (clock : ℕ) → p.start ≤ clock → (has_keys (cut owner range) ≡ true → refusal_of p.window (server_at base p owner clock) version ≡ None) →
        get (map_of (server_at base p owner clock) version) q ≡ cond (owns owner q) (get (map_then version) q) None
    key-at owner clock from answered = elim (cases_Bool (owns owner q)) [
      | inl own ↦
          let near = answers p.window clock (answered (has_keys-own owner range q own inside)) in
          ap (λ m. get m q) (map-then owner clock version from near.0 near.1) ∙ get-kept (map_then version) (owns owner) q
      | inr other ↦
          none_elsewhere owner (map_of (server_at base p owner clock) version) q
          (own-map_of owner (maps_back base p owner clock (min p.window (clock - p.start))) (clock - version) (own-back owner clock (min p.window (clock - p.start)))) other
          ∙ sym (ap (λ b. cond b (get (map_then version) q) None) other)
    ]

    find-key : (os : List Owned) (clocks : List ℕ) → length clocks ≡ length os → AllByRecursion (λ clock. p.start ≤ clock) clocks →
        first_refusal p.window range version os (servers_at base p os clocks) ≡ None →
        find key_cmp q (flat_map (λ s. entries (map_of s version)) (servers_at base p os clocks)) ≡ cond (list_any (λ o. owns o q) os) (get (map_then version) q) None
    find-key [] [] same from answered = refl
    find-key [] (c ∷ clocks) same from answered = refl
    find-key (o ∷ os) [] same from answered = absurd (omega (arith, same))
    find-key (o ∷ os) (c ∷ clocks) same from answered =
        let parts = none_refused (has_keys (cut o range)) (refusal_of p.window (server_at base p o c) version) (first_refusal p.window range version os (servers_at base p os clocks)) answered in
        find-append q (entries (map_of (server_at base p o c) version)) (flat_map (λ s. entries (map_of s version)) (servers_at base p os clocks))
        ∙ (λ i. option_or ((sym (get-entries (map_of (server_at base p o c) version) q) ∙ key-at o c from.0 parts.0) i) (find-key os clocks (omega (arith, same)) from.1 parts.1 i))
        ∙ either (owns o q) (list_any (λ o. owns o q) os) (get (map_then version) q)

-- a read that no server refuses is one of the database
pub read-database : (c : ClusterState) (range : KeyRange) (version limit : ℕ) (b : Bool) → length c.pulled ≡ length (owners c.splits) →
    AllByRecursion (λ clock. c.pipeline.start ≤ clock) c.pulled → refusal (tier_of c) range version ≡ None →
    read_of (whole_map (tier_of c) version) range limit b ≡ read_of (database_at c version) range limit b
read-database c range version limit b same from answered =
    ap (limited limit b) (pairs_in-same (whole_map (tier_of c) version) (database_at c version) range (λ q inside.
    get-from_entries nat_list_cmp_total (flat_map (λ s. entries (map_of s version)) (servers_at c.base c.pipeline (owners c.splits) c.pulled)) q
    ∙ find-key c.base c.pipeline range version q inside (owners c.splits) c.pulled same from answered
    ∙ ap (λ t. cond t (get (database_at c version) q) None) (some_owner c.splits q)))

-- a pipeline with the same database up to a version has the same servers for clocks up to there
module _ (base : Map) (p q : PipelineState) (bound : ℕ) (window : q.window ≡ p.window) (start : q.start ≡ p.start)
    (same : (version : ℕ) → version ≤ bound → map_over base (history q) version ≡ map_over base (history p) version) where
  same-back : (owner : Owned) (version count : ℕ) → version ≤ bound → maps_back base q owner version count ≡ maps_back base p owner version count
  same-back owner version zero h = ap (λ m. part owner m ∷ []) (same version h)
  same-back owner version (suc count) h = λ i. part owner (same version h i) ∷ same-back owner (version - 1) count (omega (arith, h)) i

  pub same-servers : (os : List Owned) (clocks : List ℕ) → AllByRecursion (λ clock. clock ≤ bound) clocks → servers_at base q os clocks ≡ servers_at base p os clocks
  same-servers [] clocks below = refl
  same-servers (o ∷ os) [] below = refl
  same-servers (o ∷ os) (c ∷ clocks) below =
      let maps : maps_back base q o c (min q.window (c - q.start)) ≡ maps_back base p o c (min p.window (c - p.start)) =
      same-back o c (min q.window (c - q.start)) below.0 ∙ (λ i. maps_back base p o c (min (window i) (c - start i))) in
      λ i. record { version = c; maps = maps i } ∷ same-servers os clocks below.1 i
