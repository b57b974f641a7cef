-- A read under own mutations, from the pairs that were stored before them.
use Rattle.std.proofs.Common.{◌≡◌, ℕ, ◌≤◌, Bool, true, false, cond, nat_lt, not, T, Option, None, Some, List, [], ◌∷◌, ◌++◌, length, take, reverse, inl, inr, refl, sym, ap, subst, ◌∙◌, arith}
use Rattle.std.proofs.lemmas.Bool.{true≢false, cases_Bool, false_from_ne_true}
use Rattle.std.proofs.lemmas.Cmp.{nat_list_cmp_total}
use Rattle.std.proofs.lemmas.List.{reverse-append, length-reverse, length-take-le}
use Rattle.std.specs.declared.cmp.Ordering.{Ordering}
use Rattle.std.specs.declared.cmp.Ordering.TheVariants.{Less, Equal, Greater}
use Rattle.std.specs.List.{filter}
use Rattle.std.specs.Option.{is_some}
use Rattle.std.specs.Ordering.{is_eq, is_lt}
use Rattle.std.specs.FinMap.{get, insert, from_entries, get-from_entries, get-insert}
use Rattle.std.specs.FinMap.Entries.{find, find-append, find-where_key, is_sorted, below_all}
use Rattle.kv_core.specs.Bytes.{key_cmp, next_key}
use Rattle.kv_core.specs.Range.{KeyRange, contains, covers}
use Rattle.kv_core.specs.Map.{Map, pairs_in}
use Rattle.kv_core.specs.Read.{read_of, range_read, limited, last_key}
use Rattle.kv_core.proofs.Lists.{first, second}
use Rattle.kv_core.proofs.Order.{tied_keys, tied_swap}
use Rattle.kv_core.proofs.Changes.{alike, get-set, pairs_in-same}
use Rattle.kv_core.proofs.Pairs.{directed, pairs_by_key, read_of-part, read_of-enough, inside_read}
use Rattle.kv_core.proofs.Counts.{pairs_in-fewer}
use Rattle.txn.specs.Own.{OwnState, known, worth, worth_of, sum_at, left_of, laid_over}

abbrev pub Pairs : Type 0
Pairs = List (List ℕ × List ℕ)

-- no key stands twice
abbrev NoTwice : Pairs → Type 0
NoTwice [] = Unit {0}
NoTwice (e ∷ es) = (find key_cmp e.0 es ≡ None) × NoTwice es

lt_not_eq : (r : Ordering) → T (is_lt r) → is_eq r ≡ false
lt_not_eq Less h = refl
lt_not_eq Equal h = absurd h
lt_not_eq Greater h = refl

below_none : (k : List ℕ) (es : Pairs) → T (below_all key_cmp k es) → find key_cmp k es ≡ None
below_none k [] h = refl
below_none k (e ∷ es) h =
    ap (λ t. cond t (Some e.1) (find key_cmp k es)) (lt_not_eq (key_cmp k e.0) (first (is_lt (key_cmp k e.0)) (below_all key_cmp k es) h))
    ∙ below_none k es (second (is_lt (key_cmp k e.0)) (below_all key_cmp k es) h)

sorted_once : (es : Pairs) → T (is_sorted key_cmp es) → NoTwice es
sorted_once [] h = tt
sorted_once (e ∷ es) h = (below_none e.0 es (first (below_all key_cmp e.0 es) (is_sorted key_cmp es) h), sorted_once es (second (below_all key_cmp e.0 es) (is_sorted key_cmp es) h))

-- a key that isn't found isn't the first, nor among the others
other_first : (q k : List ℕ) (v : List ℕ) (o : Option (List ℕ)) → cond (is_eq (key_cmp q k)) (Some v) o ≡ None → (is_eq (key_cmp q k) ≡ false) × (o ≡ None)
other_first q k v o h = elim (cases_Bool (is_eq (key_cmp q k))) [
  | inl here ↦ absurd (true≢false (ap is_some (sym (ap (λ t. cond t (Some v) o) here) ∙ h)))
  | inr other ↦ (other, sym (ap (λ t. cond t (Some v) o) other) ∙ h)
]

once_pushed : (es : Pairs) (x : List ℕ × List ℕ) → NoTwice es → find key_cmp x.0 es ≡ None → NoTwice (es ++ x ∷ [])
once_pushed [] x once h = (refl, tt)
once_pushed (e ∷ es) x once h =
    let parts = other_first x.0 e.0 e.1 (find key_cmp x.0 es) h in (
      find-append key_cmp nat_list_cmp_total es x.0 x.1 e.0 parts.1 ∙ ap (λ t. cond t (Some x.1) (find key_cmp e.0 es)) (tied_swap e.0 x.0 ∙ parts.0) ∙ once.0,
      once_pushed es x once.1 parts.1,
    )

-- what is found is found from either end
find-reverse : (q : List ℕ) (es : Pairs) → NoTwice es → find key_cmp q (reverse es) ≡ find key_cmp q es
find-reverse q [] once = refl
find-reverse q (e ∷ es) once =
    ap (find key_cmp q) (reverse-append (e ∷ []) es)
    ∙ find-append key_cmp nat_list_cmp_total (reverse es) e.0 e.1 q (find-reverse e.0 es once.1 ∙ once.0)
    ∙ ap (λ o. cond (is_eq (key_cmp q e.0)) (Some e.1) o) (find-reverse q es once.1)

once-reverse : (es : Pairs) → NoTwice es → NoTwice (reverse es)
once-reverse [] once = tt
once-reverse (e ∷ es) once = subst NoTwice (sym (reverse-append (e ∷ []) es)) (once_pushed (reverse es) e (once-reverse es once.1) (find-reverse e.0 es once.1 ∙ once.0))

once-directed : (b : Bool) (es : Pairs) → NoTwice es → NoTwice (directed b es)
once-directed true es once = once-reverse es once
once-directed false es once = once

find-directed : (b : Bool) (q : List ℕ) (es : Pairs) → NoTwice es → find key_cmp q (directed b es) ≡ find key_cmp q es
find-directed true q es once = find-reverse q es once
find-directed false q es once = refl

once_in : (m : Map) (range : KeyRange) → NoTwice (pairs_in m range)
once_in m range = sorted_once (pairs_in m range) (Rattle.std.specs.FinMap.entries_sorted (Rattle.std.specs.FinMap.retain_keys m (contains range)))

-- the pairs of a range have the map's values at its keys, read from either end
found_in : (m : Map) (range : KeyRange) (b : Bool) (q : List ℕ) → contains range q ≡ true → find key_cmp q (directed b (pairs_in m range)) ≡ get m q
found_in m range b q h = find-directed b q (pairs_in m range) (once_in m range) ∙ (pairs_by_key m range).1 q ∙ ap (λ t. cond t (get m q) None) h

-- stored pairs of a read have the map's values in the range that decides it
pub stored_at : (m : Map) (range : KeyRange) (limit : ℕ) (b : Bool) (stored : Pairs) → 1 ≤ limit → stored ≡ read_of m range limit b →
    (q : List ℕ) → contains (range_read range limit b stored) q ≡ true → find key_cmp q stored ≡ get m q
stored_at m range limit b stored some is q h =
    let part = range_read range limit b (read_of m range limit b) in
    ap (find key_cmp q) (is ∙ read_of-part m range limit b some) ∙ found_in m part b q (subst (λ ps. contains (range_read range limit b ps) q ≡ true) is h)

-- the map of the stored pairs that aren't cleared
pub kept_at : (cleared : List KeyRange) (stored : Pairs) (q : List ℕ) → get (from_entries {R = key_cmp} (filter (λ e. not (covers cleared e.0)) stored)) q ≡ left_of cleared q (find key_cmp q stored)
kept_at cleared stored q =
    get-from_entries nat_list_cmp_total (filter (λ e. not (covers cleared e.0)) stored) q
    ∙ find-where_key key_cmp (λ k. not (covers cleared k)) q (alike (λ k. not (covers cleared k)) q) stored
    ∙ elim (covers cleared q) as (λ t. cond (not t) (find key_cmp q stored) None ≡ cond t None (find key_cmp q stored)) [ true ↦ refl | false ↦ refl ]

-- a map with pairs put over it, key by key
pub laid_at : (sums : List (List ℕ × List (List ℕ))) (pairs : Pairs) (m : Map) (q : List ℕ) → NoTwice pairs →
    get (laid_over sums pairs m) q ≡ worth_of (find key_cmp q pairs) (sum_at sums q) (get m q)
laid_at sums [] m q once = refl
laid_at sums (p ∷ pairs) m q once =
    let with_p = insert m p.0 (worth p.1 (sum_at sums p.0) (get m p.0)) in
    laid_at sums pairs with_p q once.1
    ∙ elim (cases_Bool (is_eq (key_cmp q p.0))) [
      | inl here ↦
          let same : q ≡ p.0 = tied_keys q p.0 here in
          let gone : find key_cmp q pairs ≡ None = ap (λ k. find key_cmp k pairs) same ∙ once.0 in
          let now : get with_p q ≡ Some (worth p.1 (sum_at sums q) (get m q)) =
          get-set m p.0 (worth p.1 (sum_at sums p.0) (get m p.0)) q ∙ ap (λ t. cond t (Some (worth p.1 (sum_at sums p.0) (get m p.0))) (get m q)) here
          ∙ ap (λ k. Some (worth p.1 (sum_at sums k) (get m k))) (sym same) in
          ap (λ o. worth_of o (sum_at sums q) (get with_p q)) gone ∙ now
          ∙ sym (ap (λ t. worth_of (cond t (Some p.1) (find key_cmp q pairs)) (sum_at sums q) (get m q)) here)
      | inr other ↦
          let now : get with_p q ≡ get m q =
          get-set m p.0 (worth p.1 (sum_at sums p.0) (get m p.0)) q ∙ ap (λ t. cond t (Some (worth p.1 (sum_at sums p.0) (get m p.0))) (get m q)) other in
          ap (worth_of (find key_cmp q pairs) (sum_at sums q)) now
          ∙ sym (ap (λ t. worth_of (cond t (Some p.1) (find key_cmp q pairs)) (sum_at sums q) (get m q)) other)
    ]

-- a map with all own pairs of a range put over it, key by key
pub laid_whole : (sums : List (List ℕ × List (List ℕ))) (written m : Map) (range : KeyRange) (q : List ℕ) → contains range q ≡ true →
    get (laid_over sums (pairs_in written range) m) q ≡ worth_of (get written q) (sum_at sums q) (get m q)
laid_whole sums written m range q inside =
    laid_at sums (pairs_in written range) m q (once_in written range)
    ∙ ap (λ o. worth_of o (sum_at sums q) (get m q)) (found_in written range false q inside)

-- a read that gives fewer pairs than the limit is decided by its whole range
pub whole_read : (range : KeyRange) (limit : ℕ) (b : Bool) (pairs : Pairs) → nat_lt (length pairs) limit ≡ true → range_read range limit b pairs ≡ range
whole_read range limit b pairs e =
    ap (λ t. cond t range (cond b (record { begin = last_key range.begin pairs; end = range.end }) (record { begin = range.begin; end = next_key (last_key range.begin pairs) }))) e

-- a list read from either end is as long
pub length-directed : (b : Bool) (es : Pairs) → length (directed b es) ≡ length es
length-directed true es = length-reverse es
length-directed false es = refl

is_under_some : (o : Option (List ℕ)) (sum : Option (List (List ℕ))) (before : Option (List ℕ)) → is_some o ≡ true → is_some (worth_of o sum before) ≡ true
is_under_some None sum before h = absurd (true≢false (sym h))
is_under_some (Some v) sum before h = refl

-- a read under own mutations is a read of the map with the own pairs put over the stored ones
pub merged_is : (own : OwnState) (base n kept : Map) (part : KeyRange) (limit : ℕ) (b : Bool) → 1 ≤ limit →
    ((q : List ℕ) → contains part q ≡ true → get n q ≡ known own q (get base q)) →
    ((q : List ℕ) → contains part q ≡ true → get kept q ≡ left_of own.cleared q (get base q)) →
    read_of (laid_over own.sums (read_of own.written part limit b) kept) part limit b ≡ read_of n part limit b
merged_is own base n kept part limit b some under_is same = by (nat_lt (length own_pairs) limit) refl
  where
    own_pairs : Pairs
    own_pairs = read_of own.written part limit b

    here : KeyRange
    here = range_read part limit b own_pairs

    laid : Map
    laid = laid_over own.sums own_pairs kept

    all : own_pairs ≡ directed b (pairs_in own.written here)
    all = read_of-part own.written part limit b some

    once : NoTwice own_pairs
    once = subst NoTwice (sym all) (once-directed b (pairs_in own.written here) (once_in own.written here))

    same_here : (q : List ℕ) → contains here q ≡ true → get laid q ≡ get n q
    same_here q h =
        laid_at own.sums own_pairs kept q once
        ∙ ap (λ o. worth_of o (sum_at own.sums q) (get kept q)) (ap (find key_cmp q) all ∙ found_in own.written here b q h)
        ∙ ap (worth_of (get own.written q) (sum_at own.sums q)) (same q (inside_read own.written part limit b some q h))
        ∙ sym (under_is q (inside_read own.written part limit b some q h))

    pairs_here : pairs_in laid here ≡ pairs_in n here
    pairs_here = pairs_in-same laid n here same_here

    long : limit ≤ length own_pairs → limit ≤ length (read_of n here limit b)
    long enough =
        let some_pairs : length (pairs_in own.written here) ≤ length (pairs_in n here) =
        pairs_in-fewer own.written n here (λ q h e. ap is_some (under_is q (inside_read own.written part limit b some q h)) ∙ is_under_some (get own.written q) (sum_at own.sums q) (left_of own.cleared q (get base q)) e) in
        let counted : length own_pairs ≡ length (pairs_in own.written here) = ap length all ∙ length-directed b (pairs_in own.written here) in
        let turned : length (directed b (pairs_in n here)) ≡ length (pairs_in n here) = length-directed b (pairs_in n here) in
        let there : limit ≤ length (directed b (pairs_in n here)) = omega (arith, enough, some_pairs, counted, turned) in
        let full : length (take limit (directed b (pairs_in n here))) ≡ limit = length-take-le limit (directed b (pairs_in n here)) there in
        omega (arith, full)

    by : (t : Bool) → nat_lt (length own_pairs) limit ≡ t → read_of laid part limit b ≡ read_of n part limit b
    by true e =
        let whole : here ≡ part = whole_read part limit b own_pairs e in
        ap (λ r. read_of laid r limit b) (sym whole) ∙ ap (limited limit b) pairs_here ∙ ap (λ r. read_of n r limit b) whole
    by false e =
        let enough = long (Rattle.std.proofs.lemmas.Bool.ltb-false (length own_pairs) limit e) in
        sym (read_of-enough own.written laid part limit limit b some (subst (λ ps. limit ≤ length (limited limit b ps)) (sym pairs_here) enough))
        ∙ ap (limited limit b) pairs_here
        ∙ read_of-enough own.written n part limit limit b some enough
