-- Places that strictly rise, from one on and before another one.
use Rattle.std.proofs.Common.{◌≡◌, ℕ, zero, suc, ◌+◌, ◌-◌, ◌<◌, ◌≤◌, Bool, true, false, cond, nat_eq, nat_le, List, [], ◌∷◌, ◌++◌, length, take, get_or, inl, inr, refl, sym, ap, subst, ◌∙◌, arith}
use Rattle.std.proofs.lemmas.Bool.{and_from, and_parts, cases_Bool, eq-eqb, eqb-true, false≢true, le-leb, leb-true, or_cases, or_left, or_right}
use Rattle.std.proofs.lemmas.List.Elements.{All-from_recursion}
use Rattle.std.specs.List.{All, AllByRecursion, filter, list_all}
use Rattle.cluster_core.specs.Kept.{has_place, rise_between}

-- places are the same where a test says so
same_place : (p q : ℕ) → nat_eq p q ≡ true → p ≡ q
same_place p q is = eqb-true p q is

pub rise_le : (l u : ℕ) (ps : List ℕ) → rise_between l u ps ≡ true → l ≤ u
rise_le l u [] h = leb-true l u h
rise_le l u (p ∷ ps) h =
    let parts = and_parts (nat_le l p) (rise_between (p + 1) u ps) h in
    let low = leb-true l p parts.0 in
    let rest = rise_le (p + 1) u ps parts.1 in
    omega (arith, low, rest)

pub rise_weaker : (l m u v : ℕ) (ps : List ℕ) → m ≤ l → u ≤ v → rise_between l u ps ≡ true → rise_between m v ps ≡ true
rise_weaker l m u v [] low high h = let le = leb-true l u h in le-leb m v (omega (arith, low, high, le))
rise_weaker l m u v (p ∷ ps) low high h =
    let parts = and_parts (nat_le l p) (rise_between (p + 1) u ps) h in
    let le = leb-true l p parts.0 in
    and_from (nat_le m p) (rise_between (p + 1) v ps) (le-leb m p (omega (arith, low, le))) (rise_weaker (p + 1) (p + 1) u v ps (omega arith) high parts.1)

pub rise_has : (l u : ℕ) (ps : List ℕ) (q : ℕ) → rise_between l u ps ≡ true → has_place ps q ≡ true → (l ≤ q) × (q < u)
rise_has l u [] q h has = absurd (false≢true has)
rise_has l u (p ∷ ps) q h has =
    let parts = and_parts (nat_le l p) (rise_between (p + 1) u ps) h in
    let low = leb-true l p parts.0 in
    elim (or_cases (nat_eq q p) (has_place ps q) has) [
      | inl here ↦
          let same = same_place q p here in
          let high = rise_le (p + 1) u ps parts.1 in
          (omega (arith, low, same), omega (arith, high, same))
      | inr later ↦ let rest = rise_has (p + 1) u ps q parts.1 later in let one = rest.0 in (omega (arith, low, one), rest.1)
    ]

pub rise_at : (l u : ℕ) (ps : List ℕ) (i : ℕ) → rise_between l u ps ≡ true → i < length ps → (l ≤ get_or ps i 0) × (get_or ps i 0 < u)
rise_at l u [] i h inside = absurd (omega (arith, inside))
rise_at l u (p ∷ ps) zero h inside =
    let parts = and_parts (nat_le l p) (rise_between (p + 1) u ps) h in
    let low = leb-true l p parts.0 in
    let high = rise_le (p + 1) u ps parts.1 in
    (omega (arith, low), omega (arith, high))
rise_at l u (p ∷ ps) (suc i) h inside =
    let parts = and_parts (nat_le l p) (rise_between (p + 1) u ps) h in
    let low = leb-true l p parts.0 in
    let rest = rise_at (p + 1) u ps i parts.1 (omega (arith, inside)) in
    let one = rest.0 in
    (omega (arith, low, one), rest.1)

-- those that stand before a place in the list come before it
pub rise_before : (l u : ℕ) (ps : List ℕ) (i q : ℕ) → rise_between l u ps ≡ true → i < length ps → has_place (take i ps) q ≡ true → q < get_or ps i 0
rise_before l u [] i q h inside has = absurd (omega (arith, inside))
rise_before l u (p ∷ ps) zero q h inside has = absurd (false≢true has)
rise_before l u (p ∷ ps) (suc i) q h inside has =
    let parts = and_parts (nat_le l p) (rise_between (p + 1) u ps) h in
    elim (or_cases (nat_eq q p) (has_place (take i ps) q) has) [
      | inl here ↦
          let same = same_place q p here in
          let next = (rise_at (p + 1) u ps i parts.1 (omega (arith, inside))).0 in
          omega (arith, same, next)
      | inr later ↦ rise_before (p + 1) u ps i q parts.1 (omega (arith, inside)) later
    ]

pub rise_all : (at l u : ℕ) (ps : List ℕ) → at ≤ l → rise_between l u ps ≡ true → All (λ p. at ≤ p) ps
rise_all at l u ps le h = All-from_recursion (λ p. at ≤ p) ps (each l ps le h)
  where
    each : (l : ℕ) (ps : List ℕ) → at ≤ l → rise_between l u ps ≡ true → AllByRecursion (λ p. at ≤ p) ps
    each l [] le h = tt
    each l (p ∷ ps) le h =
        let parts = and_parts (nat_le l p) (rise_between (p + 1) u ps) h in
        let low = leb-true l p parts.0 in
        (omega (arith, le, low), each (p + 1) ps (omega (arith, le, low)) parts.1)

pub rise_push : (l n : ℕ) (ps : List ℕ) → rise_between l n ps ≡ true → rise_between l (n + 1) (ps ++ n ∷ []) ≡ true
rise_push l n [] h = and_from (nat_le l n) (nat_le (n + 1) (n + 1)) h (le-leb (n + 1) (n + 1) (omega arith))
rise_push l n (p ∷ ps) h =
    let parts = and_parts (nat_le l p) (rise_between (p + 1) n ps) h in
    and_from (nat_le l p) (rise_between (p + 1) (n + 1) (ps ++ n ∷ [])) parts.0 (rise_push (p + 1) n ps parts.1)

pub rise_filter : (test : ℕ → Bool) (l u : ℕ) (ps : List ℕ) → rise_between l u ps ≡ true → rise_between l u (filter test ps) ≡ true
rise_filter test l u [] h = h
rise_filter test l u (p ∷ ps) h =
    let parts = and_parts (nat_le l p) (rise_between (p + 1) u ps) h in
    let low = leb-true l p parts.0 in
    let rest = rise_filter test (p + 1) u ps parts.1 in
    elim (test p) as (λ b. rise_between l u (cond b (p ∷ filter test ps) (filter test ps)) ≡ true) [
      | true ↦ and_from (nat_le l p) (rise_between (p + 1) u (filter test ps)) parts.0 rest
      | false ↦ rise_weaker (p + 1) l u u (filter test ps) (omega (arith, low)) (omega arith) rest
    ]

-- places come before what the last of them comes before
pub rise_last : (l u n : ℕ) (ps : List ℕ) → rise_between l u ps ≡ true → 0 < length ps → get_or ps (length ps - 1) 0 < n → rise_between l n ps ≡ true
rise_last l u n [] h some below = absurd (omega (arith, some))
rise_last l u n (p ∷ []) h some below =
    let parts = and_parts (nat_le l p) (nat_le (p + 1) u) h in
    and_from (nat_le l p) (nat_le (p + 1) n) parts.0 (le-leb (p + 1) n (omega (arith, below)))
rise_last l u n (p ∷ q ∷ ps) h some below =
    let parts = and_parts (nat_le l p) (rise_between (p + 1) u (q ∷ ps)) h in
    let same : suc (length ps) ≡ suc (suc (length ps)) - 1 = omega arith in
    let index : length ps ≡ suc (length ps) - 1 = omega arith in
    and_from (nat_le l p) (rise_between (p + 1) n (q ∷ ps)) parts.0
    (rise_last (p + 1) u n (q ∷ ps) parts.1 (omega arith)
    (subst (λ k. get_or (q ∷ ps) k 0 < n) index (subst (λ k. get_or (p ∷ q ∷ ps) k 0 < n) (sym same) below)))

-- what passes a test is left with it
pub has_filter : (test : ℕ → Bool) (ps : List ℕ) (q : ℕ) → test q ≡ true → has_place ps q ≡ true → has_place (filter test ps) q ≡ true
has_filter test [] q passes has = has
has_filter test (p ∷ ps) q passes has = elim (cases_Bool (test p)) [
  | inl keeps ↦ subst (λ b. has_place (cond b (p ∷ filter test ps) (filter test ps)) q ≡ true) (sym keeps) (elim (or_cases (nat_eq q p) (has_place ps q) has) [
    | inl here ↦ or_left (nat_eq q p) (has_place (filter test ps) q) here
    | inr later ↦ or_right (nat_eq q p) (has_place (filter test ps) q) (has_filter test ps q passes later)
  ])
  | inr drops ↦ subst (λ b. has_place (cond b (p ∷ filter test ps) (filter test ps)) q ≡ true) (sym drops) (elim (or_cases (nat_eq q p) (has_place ps q) has) [
    | inl here ↦ absurd (false≢true (sym drops ∙ ap test (sym (same_place q p here)) ∙ passes))
    | inr later ↦ has_filter test ps q passes later
  ])
]

pub all_filter : (p test : ℕ → Bool) (ps : List ℕ) → list_all p ps ≡ true → list_all p (filter test ps) ≡ true
all_filter p test [] h = h
all_filter p test (x ∷ ps) h =
    let parts = and_parts (p x) (list_all p ps) h in
    elim (test x) as (λ b. list_all p (cond b (x ∷ filter test ps) (filter test ps)) ≡ true) [
      | true ↦ and_from (p x) (list_all p (filter test ps)) parts.0 (all_filter p test ps parts.1)
      | false ↦ all_filter p test ps parts.1
    ]

-- a list with a place at its end has that place and what it had
pub has_push : (ps : List ℕ) (n : ℕ) → has_place (ps ++ n ∷ []) n ≡ true
has_push [] n = or_left (nat_eq n n) false (eq-eqb n n refl)
has_push (p ∷ ps) n = or_right (nat_eq n p) (has_place (ps ++ n ∷ []) n) (has_push ps n)

pub has_more : (ps : List ℕ) (n q : ℕ) → has_place ps q ≡ true → has_place (ps ++ n ∷ []) q ≡ true
has_more [] n q has = absurd (false≢true has)
has_more (p ∷ ps) n q has = elim (or_cases (nat_eq q p) (has_place ps q) has) [
  | inl here ↦ or_left (nat_eq q p) (has_place (ps ++ n ∷ []) q) here
  | inr later ↦ or_right (nat_eq q p) (has_place (ps ++ n ∷ []) q) (has_more ps n q later)
]

pub all_push : (p : ℕ → Bool) (ps : List ℕ) (n : ℕ) → list_all p ps ≡ true → p n ≡ true → list_all p (ps ++ n ∷ []) ≡ true
all_push p [] n h is = and_from (p n) true is refl
all_push p (x ∷ ps) n h is = let parts = and_parts (p x) (list_all p ps) h in and_from (p x) (list_all p (ps ++ n ∷ [])) parts.0 (all_push p ps n parts.1 is)

pub all_has : (p : ℕ → Bool) (ps : List ℕ) (q : ℕ) → list_all p ps ≡ true → has_place ps q ≡ true → p q ≡ true
all_has p [] q h has = absurd (false≢true has)
all_has p (x ∷ ps) q h has =
    let parts = and_parts (p x) (list_all p ps) h in
    elim (or_cases (nat_eq q x) (has_place ps q) has) [
      | inl here ↦ subst (λ y. p y ≡ true) (sym (same_place q x here)) parts.0
      | inr later ↦ all_has p ps q parts.1 later
    ]
