-- The pairs of the servers, one server after another, are those of their maps together.
use Rattle.std.proofs.Common.{arith, ◌≡◌, ℕ, zero, suc, ◌+◌, ◌-◌, ◌<◌, ◌≤◌, Bool, true, false, cond, T, None, Some, List, [], ◌∷◌, ◌++◌, get_or, length, map, take, reverse, inl, inr, refl, sym, ap, subst, ◌∙◌}
use Rattle.std.proofs.lemmas.Bool.{and_from, and_parts, cases_Bool}
use Rattle.std.proofs.lemmas.Cmp.{nat_list_cmp_total}
use Rattle.std.proofs.lemmas.Grind.{flat_map-append}
use Rattle.std.proofs.lemmas.List.{get_or-reverse, length-reverse, reverse-append, take_more}
use Rattle.std.proofs.lemmas.List.Elements.{filter-append}
use Rattle.std.specs.FinMap.{empty, entries, entries-from_sorted, entries_sorted, from_entries, from_sorted, get-from_entries, get-from_sorted, is_sorted}
use Rattle.std.specs.FinMap.Entries.{below_all}
use Rattle.std.specs.List.{AllByRecursion, filter, flat_map}
use Rattle.kv_core.specs.Bytes.{key_cmp, key_le, key_lt}
use Rattle.kv_core.specs.Map.{Map, pairs_in}
use Rattle.kv_core.specs.Range.{KeyRange, contains}
use Rattle.kv_core.specs.Read.{read_of}
use Rattle.kv_core.proofs.Changes.{same_maps}
use Rattle.kv_core.proofs.Listed.{entries-empty}
use Rattle.kv_core.proofs.Lists.{filter_here, filter_not, is_true}
use Rattle.kv_core.proofs.Order.{le_trans, lt_le_trans, le_from_lt}
use Rattle.kv_core.proofs.Pairs.{entries-kept}
use Rattle.cluster_core.specs.Configuration.{is_rising_above}
use Rattle.cluster_core.specs.Decision.{Owned, owners, owners_from, owns}
use Rattle.cluster_core.specs.Server.{turned}
use Rattle.cluster_core.specs.Tier.{part}

abbrev Pair : Type 0
Pair = List ℕ × List ℕ

no_more : {Y : Type 0} (ys : List Y) → ys ++ [] ≡ ys
no_more [] = refl
no_more (y ∷ ys) = ap (λ t. y ∷ t) (no_more ys)

-- one piece more of a list that is cut at a limit
take_both : {X : Type 0} (n : ℕ) (xs ys : List X) → take n xs ++ take (n - length (take n xs)) ys ≡ take n (xs ++ ys)
take_both zero xs ys = let n : 0 - length (take 0 xs) ≡ 0 = omega arith in ap (λ k. take k ys) n
take_both (suc n) [] ys = let k : suc n - 0 ≡ suc n = omega arith in ap (λ k. take k ys) k
take_both (suc n) (x ∷ xs) ys =
    let k : suc n - suc (length (take n xs)) ≡ n - length (take n xs) = omega arith in
    ap (λ k. x ∷ (take n xs ++ take k ys)) k ∙ ap (λ zs. x ∷ zs) (take_both n xs ys)

pub read_more : {X Y : Type 0} (limit left : ℕ) (f : X → List Y) (done : List X) (x : X) (so_far more : List Y) → so_far ≡ take limit (flat_map f done) →
    left ≡ limit - length so_far → more ≡ take left (f x) → so_far ++ more ≡ take limit (flat_map f (done ++ x ∷ []))
read_more limit left f done x so_far more is rest piece =
    ap (λ ys. so_far ++ ys) (piece ∙ ap (λ n. take n (f x)) rest)
    ∙ ap (λ ys. ys ++ take (limit - length ys) (f x)) is
    ∙ take_both limit (flat_map f done) (f x)
    ∙ ap (take limit) (sym (flat_map-append f done (x ∷ []) ∙ ap (λ ys. flat_map f done ++ ys) (no_more (f x))))

-- the next element of a list in order, or from the last one back
pub turned_more : {X : Type 0} (b : Bool) (xs : List X) (i place : ℕ) (x : X) → i < length xs → place ≡ cond b (length xs - 1 - i) i → x ≡ get_or xs place x →
    take (i + 1) (turned b xs) ≡ take i (turned b xs) ++ x ∷ []
turned_more true xs i place x below there is =
    take_more (reverse xs) i x (subst (λ n. i < n) (sym (length-reverse xs)) below)
    ∙ ap (λ y. take i (reverse xs) ++ y ∷ []) (get_or-reverse xs i x below ∙ ap (λ n. get_or xs n x) (sym there) ∙ sym is)
turned_more false xs i place x below there is =
    take_more xs i x below ∙ ap (λ y. take i xs ++ y ∷ []) (ap (λ n. get_or xs n x) (sym there) ∙ sym is)

turned_whole : {X : Type 0} (b : Bool) (xs : List X) → length (turned b xs) ≡ length xs
turned_whole true xs = length-reverse xs
turned_whole false xs = refl

take_all : {X : Type 0} (n : ℕ) (xs : List X) → length xs ≤ n → take n xs ≡ xs
take_all zero [] h = refl
take_all zero (x ∷ xs) h = absurd (omega (arith, h))
take_all (suc n) [] h = refl
take_all (suc n) (x ∷ xs) h = ap (λ ys. x ∷ ys) (take_all n xs (omega (arith, h)))

pub turned_done : {X : Type 0} (b : Bool) (xs : List X) (i : ℕ) → length xs ≤ i → take i (turned b xs) ≡ turned b xs
turned_done b xs i h = take_all i (turned b xs) (subst (λ n. n ≤ i) (sym (turned_whole b xs)) h)

-- a read of the empty map gives nothing
take_none : {X : Type 0} (n : ℕ) → take {A = X} n [] ≡ []
take_none zero = refl
take_none (suc n) = refl

none_turned : {X : Type 0} (b : Bool) → turned {X = X} b [] ≡ []
none_turned true = refl
none_turned false = refl

pub read-empty : (m : Map) (range : KeyRange) (limit : ℕ) (b : Bool) → m ≡ empty → read_of m range limit b ≡ []
read-empty m range limit b is =
    ap (λ x. read_of x range limit b) is
    ∙ ap (λ ps. take limit (turned b ps)) (entries-kept empty (contains range) ∙ ap (filter (λ e. contains range e.0)) entries-empty)
    ∙ ap (take limit) (none_turned b) ∙ take_none limit

-- pieces from the last one back
pub turned-flat_map : {X Y : Type 0} (b : Bool) (f : X → List Y) (xs : List X) → turned b (flat_map f xs) ≡ flat_map (λ x. turned b (f x)) (turned b xs)
turned-flat_map false f xs = refl
turned-flat_map true f [] = refl
turned-flat_map true f (x ∷ xs) =
    reverse-append (f x) (flat_map f xs) ∙ ap (λ ys. ys ++ reverse (f x)) (turned-flat_map true f xs)
    ∙ sym (ap (flat_map (λ x. reverse (f x))) (reverse-append (x ∷ []) xs) ∙ flat_map-append (λ x. reverse (f x)) (reverse xs) (x ∷ [])
    ∙ ap (λ ys. flat_map (λ x. reverse (f x)) (reverse xs) ++ ys) (no_more (reverse (f x))))

filter-flat_map : {X Y : Type 0} (p : Y → Bool) (f : X → List Y) (xs : List X) → filter p (flat_map f xs) ≡ flat_map (λ x. filter p (f x)) xs
filter-flat_map p f [] = refl
filter-flat_map p f (x ∷ xs) = filter-append p (f x) (flat_map f xs) ∙ ap (λ ys. filter p (f x) ++ ys) (filter-flat_map p f xs)

same-flat_map : {X Y : Type 0} (f g : X → List Y) → ((x : X) → f x ≡ g x) → (xs : List X) → flat_map f xs ≡ flat_map g xs
same-flat_map f g e xs = λ i. flat_map (λ x. e x i) xs

-- entries in order, joined
abbrev KeysFrom : List ℕ → List Pair → Type 0
KeysFrom from es = AllByRecursion (λ e. key_le from e.0 ≡ true) es

abbrev KeysOf : Owned → List Pair → Type 0
KeysOf owner es = AllByRecursion (λ e. owns owner e.0 ≡ true) es

below_from : (x split : List ℕ) (es : List Pair) → key_lt x split ≡ true → KeysFrom split es → below_all key_cmp x es ≡ true
below_from x split [] h a = refl
below_from x split (e ∷ es) h a = and_from (key_lt x e.0) (below_all key_cmp x es) (lt_le_trans x split e.0 h a.0) (below_from x split es h a.1)

below_both : (x : List ℕ) (es fs : List Pair) → below_all key_cmp x es ≡ true → below_all key_cmp x fs ≡ true → below_all key_cmp x (es ++ fs) ≡ true
below_both x [] fs a b = b
below_both x (e ∷ es) fs a b =
    let parts = and_parts (key_lt x e.0) (below_all key_cmp x es) a in
    and_from (key_lt x e.0) (below_all key_cmp x (es ++ fs)) parts.0 (below_both x es fs parts.1 b)

sorted_both : (split : List ℕ) (es fs : List Pair) → is_sorted key_cmp es ≡ true → is_sorted key_cmp fs ≡ true →
    AllByRecursion (λ e. key_lt e.0 split ≡ true) es → KeysFrom split fs → is_sorted key_cmp (es ++ fs) ≡ true
sorted_both split [] fs a b under over = b
sorted_both split (e ∷ es) fs a b under over =
    let parts = and_parts (below_all key_cmp e.0 es) (is_sorted key_cmp es) a in
    and_from (below_all key_cmp e.0 (es ++ fs)) (is_sorted key_cmp (es ++ fs)) (below_both e.0 es fs parts.0 (below_from e.0 split fs under.0 over)) (sorted_both split es fs parts.1 b under.1 over)

All-both : {X : Type 0} (P : X → Type 0) (xs ys : List X) → AllByRecursion P xs → AllByRecursion P ys → AllByRecursion P (xs ++ ys)
All-both P [] ys a b = b
All-both P (x ∷ xs) ys a b = (a.0, All-both P xs ys a.1 b)

weaker : (P Q : List ℕ → Type 0) → ((k : List ℕ) → P k → Q k) → (es : List Pair) → AllByRecursion (λ e. P e.0) es → AllByRecursion (λ e. Q e.0) es
weaker P Q f [] a = tt
weaker P Q f (e ∷ es) a = (f e.0 a.0, weaker P Q f es a.1)

passes : (p : List ℕ → Bool) (es : List Pair) → AllByRecursion (λ e. p e.0 ≡ true) (filter (λ e. p e.0) es)
passes p [] = tt
passes p (e ∷ es) = elim (cases_Bool (p e.0)) [
  | inl kept ↦ subst (AllByRecursion (λ e. p e.0 ≡ true)) (sym (filter_here (λ e. p e.0) e es kept)) (kept, passes p es)
  | inr gone ↦ subst (AllByRecursion (λ e. p e.0 ≡ true)) (sym (filter_not (λ e. p e.0) e es gone)) (passes p es)
]

-- the keys of a map of a part are the part's
keys_of_part : (owner : Owned) (m : Map) → part owner m ≡ m → KeysOf owner (entries m)
keys_of_part owner m kept = subst (KeysOf owner) (sym (ap entries (sym kept) ∙ entries-kept m (owns owner))) (passes (owns owner) (entries m))

in_order : (m : Map) → is_sorted key_cmp (entries m) ≡ true
in_order m = is_true (is_sorted key_cmp (entries m)) (entries_sorted m)

entries-sorted : (es : List Pair) → is_sorted key_cmp es ≡ true → entries (from_entries {R = key_cmp} es) ≡ es
entries-sorted es h =
    let s = subst T (sym h) tt in
    ap entries (same_maps (from_entries es) (from_sorted es) (λ q. get-from_entries nat_list_cmp_total es q ∙ sym (get-from_sorted key_cmp es q s)))
    ∙ entries-from_sorted key_cmp es s

pairs_in-sorted : (es : List Pair) (range : KeyRange) → is_sorted key_cmp es ≡ true → pairs_in (from_entries es) range ≡ filter (λ e. contains range e.0) es
pairs_in-sorted es range h = entries-kept (from_entries es) (contains range) ∙ ap (filter (λ e. contains range e.0)) (entries-sorted es h)

first_of : Owned → List Owned → Owned
first_of other [] = other
first_of other (o ∷ os) = o

rest_of : List Owned → List Owned
rest_of [] = []
rest_of (o ∷ os) = os

module _ {S : Type 0} (owner : S → Owned) (map_at : S → Map) where
  abbrev Own : S → Type 0
  Own s = part (owner s) (map_at s) ≡ map_at s

  abbrev all_entries : List S → List Pair
  all_entries ss = flat_map (λ s. entries (map_at s)) ss

  -- the entries of the servers from a key on are in order, and have keys from there on
  joined : (from : List ℕ) (splits : List (List ℕ)) (ss : List S) → map owner ss ≡ owners_from from splits → is_rising_above from splits ≡ true → AllByRecursion Own ss →
      (is_sorted key_cmp (all_entries ss) ≡ true) × KeysFrom from (all_entries ss)
  unfolding first_of rest_of
  joined from splits [] is rising own = (refl, tt)
  joined from [] (s ∷ []) is rising own =
      let last : record { from = from; upto = None } ≡ owner s = ap (first_of (owner s)) (sym is) in
      let keys = subst (λ o. KeysOf o (entries (map_at s))) (sym last) (keys_of_part (owner s) (map_at s) own.0) in
      subst (λ es. (is_sorted key_cmp es ≡ true) × KeysFrom from es) (sym (no_more (entries (map_at s)))) (
        in_order (map_at s),
        weaker (λ k. owns (record { from = from; upto = None }) k ≡ true) (λ k. key_le from k ≡ true) (λ k h. (and_parts (key_le from k) true h).0) (entries (map_at s)) keys,
      )
  joined from [] (s ∷ s' ∷ ss) is rising own = let n : suc (suc (length (map owner ss))) ≡ 1 = ap length is in absurd (omega (arith, n))
  joined from (split ∷ splits) (s ∷ ss) is rising own =
      let mine : Owned = record { from = from; upto = Some split } in
      let here : mine ≡ owner s = ap (first_of (owner s)) (sym is) in
      let keys : KeysOf mine (entries (map_at s)) = subst (λ o. KeysOf o (entries (map_at s))) (sym here) (keys_of_part (owner s) (map_at s) own.0) in
      let rises = and_parts (key_lt from split) (is_rising_above split splits) rising in
      let others = joined split splits ss (ap rest_of is) rises.1 own.1 in (
        sorted_both split (entries (map_at s)) (all_entries ss) (in_order (map_at s)) others.0
            (weaker (λ k. owns mine k ≡ true) (λ k. key_lt k split ≡ true) (λ k h. (and_parts (key_le from k) (key_lt k split) h).1) (entries (map_at s)) keys) others.1,
        All-both (λ e. key_le from e.0 ≡ true) (entries (map_at s)) (all_entries ss)
            (weaker (λ k. owns mine k ≡ true) (λ k. key_le from k ≡ true) (λ k h. (and_parts (key_le from k) (key_lt k split) h).0) (entries (map_at s)) keys)
            (weaker (λ k. key_le split k ≡ true) (λ k. key_le from k ≡ true) (λ k h. le_trans from split k (le_from_lt from split rises.0) h) (all_entries ss) others.1),
      )

  -- the pairs of one server after another are a read of the servers' maps together
  pub joined_read : (splits : List (List ℕ)) (ss : List S) (range : KeyRange) (limit : ℕ) (b : Bool) → map owner ss ≡ owners splits → is_rising_above [] splits ≡ true →
      AllByRecursion Own ss → take limit (flat_map (λ s. turned b (pairs_in (map_at s) range)) (turned b ss)) ≡ read_of (from_entries (all_entries ss)) range limit b
  joined_read splits ss range limit b is rising own = ap (take limit) (sym
      (ap (turned b) (pairs_in-sorted (all_entries ss) range (joined [] splits ss is rising own).0
      ∙ filter-flat_map (λ e. contains range e.0) (λ s. entries (map_at s)) ss
      ∙ same-flat_map (λ s. filter (λ e. contains range e.0) (entries (map_at s))) (λ s. pairs_in (map_at s) range) (λ s. sym (entries-kept (map_at s) (contains range))) ss)
      ∙ turned-flat_map b (λ s. pairs_in (map_at s) range) ss))
