-- The maps of the committed history are those that the logs make.
use Rattle.std.proofs.Common.{◌≡◌, ℕ, ◌+◌, ◌-◌, ◌<◌, ◌≤◌, Bool, true, false, cond, List, [], ◌∷◌, ◌++◌, length, map, fold, refl, sym, ap, subst, ◌∙◌, arith, append_assoc}
use Rattle.std.proofs.lemmas.Bool.{le-leb}
use Rattle.std.proofs.lemmas.List.Elements.{filter-append}
use Rattle.std.specs.List.{AllByRecursion, filter}
use Rattle.std.specs.FinMap.{empty}
use Rattle.kv_core.specs.Map.{Map, after_all}
use Rattle.kv_core.specs.declared.change.CommitRequest.{CommitRequest}
use Rattle.cluster_core.specs.History.{Entry, until, replay, map_at, map_over}
use Rattle.cluster_core.specs.Decision.{numbered, is_committed, committed, logged, log}
use Rattle.cluster_core.specs.Tier.{Makes}
use Rattle.cluster_core.specs.Configuration.{TierHasDatabase}
use Rattle.cluster_core.proofs.Versions.{until-none, fold-push, above-numbered}
use Rattle.cluster_core.proofs.StorageMaps.{tier_follows_log}

until-all : (v : ℕ) (es : List Entry) → AllByRecursion (λ e. e.version ≤ v) es → until v es ≡ es
until-all v [] a = refl
until-all v (e ∷ es) a = ap (λ b. cond b (e ∷ until v es) (until v es)) (le-leb e.version v a.0) ∙ ap (λ xs. e ∷ xs) (until-all v es a.1)

raise : (v w : ℕ) (es : List Entry) → v ≤ w → AllByRecursion (λ e. e.version ≤ v) es → AllByRecursion (λ e. e.version ≤ w) es
raise v w [] h a = tt
raise v w (e ∷ es) h a = let one : e.version ≤ v = a.0 in (omega (arith, one, h), raise v w es h a.1)

push-all : (v : ℕ) (e : Entry) (es : List Entry) → AllByRecursion (λ e. e.version ≤ v) es → e.version ≤ v → AllByRecursion (λ e. e.version ≤ v) (es ++ e ∷ [])
push-all v e [] a h = (h, tt)
push-all v e (x ∷ es) a h = (a.0, push-all v e es a.1 h)

above-filter : (p : Entry → Bool) (n : ℕ) (es : List Entry) → AllByRecursion (λ e. n < e.version) es → AllByRecursion (λ e. n < e.version) (filter p es)
above-filter p n [] a = tt
above-filter p n (e ∷ es) a = elim (p e) as (λ b. AllByRecursion (λ e. n < e.version) (cond b (e ∷ filter p es) (filter p es))) [ true ↦ (a.0, above-filter p n es a.1) | false ↦ above-filter p n es a.1 ]

nothing_more : (xs : List Entry) → xs ++ [] ≡ xs
nothing_more [] = refl
nothing_more (x ∷ xs) = ap (λ t. x ∷ t) (nothing_more xs)

-- a list that stands up to a version, and then one that stands above it
until-both : (v : ℕ) (xs ys : List Entry) → AllByRecursion (λ e. e.version ≤ v) xs → AllByRecursion (λ e. v < e.version) ys → until v (xs ++ ys) ≡ xs
until-both v xs ys a b =
    filter-append (λ e. Rattle.std.proofs.Common.nat_le e.version v) xs ys ∙ (λ i. until-all v xs a i ++ until-none v v ys (omega arith) b i) ∙ nothing_more xs

module _ (base : Map) (p : Entry → Bool) where
  makes_from : (done : List Entry) (n : ℕ) (qs : List CommitRequest) → AllByRecursion (λ e. e.version ≤ n) done →
      Makes (map_over base (done ++ filter p (numbered n qs))) n (map (logged p) (numbered n qs))
  makes_from done n [] a = tt
  makes_from done n (q ∷ qs) a =
      elim (p e) as (λ b. Makes (map_over base (done ++ cond b (e ∷ later) later)) n (cond b e.request.mutations [] ∷ map (logged p) (numbered (n + 1) qs))) [
        | true ↦ (
          with_e,
          subst (λ h. Makes (map_over base h) (n + 1) (map (logged p) (numbered (n + 1) qs))) (append_assoc done (e ∷ []) later)
              (makes_from (done ++ e ∷ []) (n + 1) qs (push-all (n + 1) e done (raise n (n + 1) done (omega arith) a) (omega arith))),
        )
        | false ↦ (
          ap (replay base) (until-both (n + 1) done later (raise n (n + 1) done (omega arith) a) over ∙ sym (until-both n done later a (lower later over))),
          makes_from done (n + 1) qs (raise n (n + 1) done (omega arith) a),
        )
      ]
    where
      e : Entry
      e = record { version = n + 1; request = q }

      later : List Entry
      later = filter p (numbered (n + 1) qs)

      over : AllByRecursion (λ x. n + 1 < x.version) later
      over = above-filter p (n + 1) (numbered (n + 1) qs) (above-numbered (n + 1) (n + 1) qs (omega arith))

      lower : (es : List Entry) → AllByRecursion (λ x. n + 1 < x.version) es → AllByRecursion (λ x. n < x.version) es
      lower [] a = tt
      lower (x ∷ es) a = let one : n + 1 < x.version = a.0 in (omega (arith, one), lower es a.1)

      with_e : map_over base (done ++ e ∷ later) (n + 1) ≡ after_all q.mutations (map_over base (done ++ e ∷ later) n)
      with_e =
          let now : until (n + 1) (done ++ e ∷ later) ≡ done ++ e ∷ [] =
          ap (until (n + 1)) (sym (append_assoc done (e ∷ []) later)) ∙ until-both (n + 1) (done ++ e ∷ []) later (push-all (n + 1) e done (raise n (n + 1) done (omega arith) a) (omega arith)) over in
          let before : until n (done ++ e ∷ later) ≡ done = until-both n done (e ∷ later) a (omega arith, lower later over) in
          ap (replay base) now ∙ fold-push (λ m entry. after_all entry.request.mutations m) base done e ∙ ap (λ xs. after_all q.mutations (replay base xs)) (sym before)

-- the log of the committed requests makes the maps of their history
pub log_makes_history : (base : Map) (splits : List (List ℕ)) (start : ℕ) (requests : List CommitRequest) →
    Makes (map_over base (committed splits (numbered start requests))) start (log splits (numbered start requests))
log_makes_history base splits start requests = makes_from base (is_committed splits (numbered start requests)) [] start requests tt

-- up to the first version there is the base
pub base_before : (base : Map) (splits : List (List ℕ)) (start : ℕ) (requests : List CommitRequest) (version : ℕ) → version ≤ start →
    map_over base (committed splits (numbered start requests)) version ≡ base
base_before base splits start requests version below =
    ap (replay base) (until-none version start (committed splits (numbered start requests)) below
    (above-filter (is_committed splits (numbered start requests)) start (numbered start requests) (above-numbered start start requests (omega arith))))

pub begins_empty : (splits : List (List ℕ)) (start : ℕ) (requests : List CommitRequest) → map_at (committed splits (numbered start requests)) start ≡ empty
begins_empty splits start requests = base_before empty splits start requests start (omega arith)

long : (splits : List (List ℕ)) (all : List Entry) (last : ℕ) (qs : List CommitRequest) → length (map (logged (is_committed splits all)) (numbered last qs)) ≡ length qs
long splits all last [] = refl
long splits all last (q ∷ qs) = ap Rattle.std.proofs.Common.suc (long splits all (last + 1) qs)

pub tier_has_database : TierHasDatabase
tier_has_database config requests version from upto near =
    let entries = numbered config.start requests in
    let same : length (log config.resolver_splits entries) ≡ length requests = long config.resolver_splits entries config.start requests in
    tier_follows_log config (log config.resolver_splits entries) (map_at (committed config.resolver_splits entries))
    (begins_empty config.resolver_splits config.start requests) (log_makes_history empty config.resolver_splits config.start requests)
    version from (omega (arith, same, upto)) (omega (arith, same, near))
