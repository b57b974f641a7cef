-- Which stretches a range swallows.
use Rattle.std.proofs.Common.{◌≡◌, Bool, true, false, cond, not, ◌&&◌, List, [], ◌∷◌, ◌++◌, append-nil, inl, inr, refl, sym, ap, subst, ◌∙◌}
use Rattle.std.proofs.lemmas.Bool.{false≢true, or_cases, or_left, or_right, cases_Bool}
use Rattle.std.proofs.lemmas.Cmp.{nat_list_cmp_total, tied_itself}
use Rattle.std.proofs.lemmas.List.Elements.{filter_agree}
use Rattle.std.proofs.lemmas.List.Sums.{take_while-cons}
use Rattle.std.proofs.lemmas.Map.Keys.{sorted_tail}
use Rattle.std.specs.List.{filter, take_while}
use Rattle.std.specs.Map.{keys_of}
use Rattle.std.specs.Ordering.{is_eq, is_lt}
use Rattle.kv_core.specs.Bytes.{has_key, key_cmp, key_le, key_lt}
use Rattle.kv_core.specs.Range.{KeyRange}
use Rattle.kv_core.specs.Coverage.{AreStretches, AreSwallowed, EndsAt}
use Rattle.kv_core.proofs.Lists.{filter_here, filter_not}
use Rattle.kv_core.proofs.Order.{le_from_lt, le_trans, tied_keys}
use Rattle.kv_core.proofs.Stored.{one_more}
use Rattle.kv_core.proofs.Stretches.{IsAscending, Key, Pair, after_first, ends_cases, ends_first, ends_later, nowhere, stretches_tail}

-- whether a stretch begins after a range does, and whether it ends within it
abbrev begins_after : KeyRange → Pair → Bool
begins_after range e = key_lt range.begin e.0

abbrev ends_in : KeyRange → Pair → Bool
ends_in range e = key_le e.1 range.end

-- the begins after that of the range, up to the first stretch that doesn't end within it
abbrev pub begins_within : KeyRange → List Pair → List Key
begins_within range es = keys_of (take_while (λ e. key_le e.1 range.end) (filter (λ e. key_lt range.begin e.0) es))

taken : (range : KeyRange) (e : Pair) (es : List Pair) → ends_in range e ≡ true → take_while (ends_in range) (e ∷ es) ≡ e ∷ take_while (ends_in range) es
taken range e es h = take_while-cons (ends_in range) e es ∙ ap (λ b. cond b (e ∷ take_while (ends_in range) es) []) h

cut : (range : KeyRange) (e : Pair) (es : List Pair) → ends_in range e ≡ false → take_while (ends_in range) (e ∷ es) ≡ []
cut range e es h = take_while-cons (ends_in range) e es ∙ ap (λ b. cond b (e ∷ take_while (ends_in range) es) []) h

listed : (range : KeyRange) (e : Pair) (es : List Pair) → begins_after range e ≡ true → ends_in range e ≡ true → begins_within range (e ∷ es) ≡ e.0 ∷ begins_within range es
listed range e es p q =
    ap (λ xs. keys_of (take_while (ends_in range) xs)) (filter_here (begins_after range) e es p) ∙ ap keys_of (taken range e (filter (begins_after range) es) q)

ended : (range : KeyRange) (e : Pair) (es : List Pair) → begins_after range e ≡ true → ends_in range e ≡ false → begins_within range (e ∷ es) ≡ []
ended range e es p q =
    ap (λ xs. keys_of (take_while (ends_in range) xs)) (filter_here (begins_after range) e es p) ∙ ap keys_of (cut range e (filter (begins_after range) es) q)

skipped : (range : KeyRange) (e : Pair) (es : List Pair) → begins_after range e ≡ false → begins_within range (e ∷ es) ≡ begins_within range es
skipped range e es p = ap (λ xs. keys_of (take_while (ends_in range) xs)) (filter_not (begins_after range) e es p)

-- a begin among them is one of a stretch that begins after the range does and ends within it
begins_gives : (range : KeyRange) (es : List Pair) → IsAscending es → (q : Key) → has_key (begins_within range es) q ≡ true →
    (t : Key) × EndsAt es q t × (key_lt range.begin q ≡ true) × (key_le t range.end ≡ true)
begins_gives range [] up q h = absurd (false≢true h)
begins_gives range (e ∷ es) up q h = elim (cases_Bool (begins_after range e)) [
  | inl after ↦ elim (cases_Bool (ends_in range e)) [
    | inl inside ↦
        elim (or_cases (is_eq (key_cmp q e.0)) (has_key (begins_within range es) q) (ap (λ ks. has_key ks q) (sym (listed range e es after inside)) ∙ h)) [
          | inl same ↦
              let is = sym (tied_keys q e.0 same) in
              (e.1, subst (λ k. EndsAt (e ∷ es) k e.1) is (ends_first e es), subst (λ k. key_lt range.begin k ≡ true) is after, inside)
          | inr later ↦ more (begins_gives range es (sorted_tail key_cmp e.0 (keys_of es) up) q later)
        ]
    | inr past ↦ absurd (false≢true (ap (λ ks. has_key ks q) (sym (ended range e es after past)) ∙ h))
  ]
  | inr before ↦ more (begins_gives range es (sorted_tail key_cmp e.0 (keys_of es) up) q (ap (λ ks. has_key ks q) (sym (skipped range e es before)) ∙ h))
]
  where
    more : (t : Key) × EndsAt es q t × (key_lt range.begin q ≡ true) × (key_le t range.end ≡ true) →
        (t : Key) × EndsAt (e ∷ es) q t × (key_lt range.begin q ≡ true) × (key_le t range.end ≡ true)
    more rest = (rest.0, ends_later e es q rest.0 up rest.1, rest.2, rest.3)

-- and each such begin is among them, since the ends rise
begins_from : (range : KeyRange) (es : List Pair) → IsAscending es → AreStretches es → (q t : Key) → EndsAt es q t →
    key_lt range.begin q ≡ true → key_le t range.end ≡ true → has_key (begins_within range es) q ≡ true
begins_from range [] up s q t h after inside = absurd (nowhere h)
begins_from range (e ∷ es) up s q t h after inside = elim (ends_cases e es q t h) [
  | inl here ↦
      ap (λ ks. has_key ks q) (listed range e es (subst (λ k. key_lt range.begin k ≡ true) here.0 after) (subst (λ k. key_le k range.end ≡ true) here.1 inside))
      ∙ or_left (is_eq (key_cmp q e.0)) (has_key (begins_within range es) q) (ap (λ k. is_eq (key_cmp q k)) (sym here.0) ∙ ap is_eq (tied_itself nat_list_cmp_total q))
  | inr later ↦
      let rest = begins_from range es (sorted_tail key_cmp e.0 (keys_of es) up) (stretches_tail e es up s) q t later after inside in
      let rises = s.rise e.0 e.1 q t (ends_first e es) (ends_later e es q t up later) (after_first e es q t up later) in
      elim (cases_Bool (begins_after range e)) [
        | inl first ↦
            ap (λ ks. has_key ks q) (listed range e es first (le_trans e.1 t range.end (le_from_lt e.1 t rises) inside))
            ∙ or_right (is_eq (key_cmp q e.0)) (has_key (begins_within range es) q) rest
        | inr before ↦ ap (λ ks. has_key ks q) (skipped range e es before) ∙ rest
      ]
]

pub are_swallowed : (range : KeyRange) (es : List Pair) (begins : List Key) → IsAscending es → AreStretches es → begins ≡ begins_within range es → AreSwallowed range es begins
are_swallowed range es begins up s is q = (
  λ h. begins_gives range es up q (ap (λ ks. has_key ks q) (sym is) ∙ h),
  λ t. ap (λ ks. has_key ks q) is ∙ begins_from range es up s q t.0 t.1 t.2 t.3,
)

-- a walk along the stretches after a begin, which has some begins so far: its start, one turn, and its ends
pub after_begin : (range : KeyRange) (b : Key) (es : List Pair) → b ≡ range.begin →
    filter (λ e. is_lt (key_cmp b e.0) && not false) es ≡ filter (λ e. key_lt range.begin e.0) es
after_begin range b es is =
    (λ i. filter (λ e. is_lt (key_cmp (is i) e.0) && not false) es)
    ∙ filter_agree (λ (e : Pair). begins_after range e && not false) (begins_after range) (λ e. and_true (begins_after range e)) es
  where
    and_true : (b : Bool) → (b && true) ≡ b
    and_true true = refl
    and_true false = refl

pub begins_turn : (range : KeyRange) (bs : List Key) (rest more : List Pair) (e : Pair) (all : List Key) → rest ≡ e ∷ more → key_le e.1 range.end ≡ true →
    bs ++ keys_of (take_while (λ x. key_le x.1 range.end) rest) ≡ all → (bs ++ e.0 ∷ []) ++ keys_of (take_while (λ x. key_le x.1 range.end) more) ≡ all
begins_turn range bs rest more e all is inside so =
    one_more bs (keys_of (take_while (ends_in range) more)) e.0
    ∙ ap (λ xs. bs ++ keys_of xs) (sym (taken range e more inside) ∙ ap (take_while (ends_in range)) (sym is))
    ∙ so

pub begins_stop : (range : KeyRange) (bs : List Key) (rest more : List Pair) (e : Pair) (all : List Key) → rest ≡ e ∷ more → key_le e.1 range.end ≡ false →
    bs ++ keys_of (take_while (λ x. key_le x.1 range.end) rest) ≡ all → bs ≡ all
begins_stop range bs rest more e all is past so =
    sym (append-nil bs) ∙ ap (λ xs. bs ++ keys_of xs) (sym (cut range e more past) ∙ ap (take_while (ends_in range)) (sym is)) ∙ so

pub begins_end : (range : KeyRange) (bs : List Key) (rest : List Pair) (all : List Key) → rest ≡ [] →
    bs ++ keys_of (take_while (λ x. key_le x.1 range.end) rest) ≡ all → bs ≡ all
begins_end range bs rest all is so = sym (append-nil bs) ∙ ap (λ xs. bs ++ keys_of (take_while (ends_in range) xs)) (sym is) ∙ so
