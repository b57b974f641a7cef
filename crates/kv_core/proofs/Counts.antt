-- How many pairs maps have in a range.
use Rattle.std.proofs.Common.{◌≡◌, ℕ, ◌≤◌, Bool, true, false, cond, None, Some, List, [], ◌∷◌, length, inl, inr, refl, sym, ap, subst, ◌∙◌, arith}
use Rattle.std.proofs.lemmas.Bool.{cases_Bool, false_from_ne_true, false≢true}
use Rattle.std.proofs.lemmas.Cmp.{nat_list_cmp_total, tied_itself}
use Rattle.std.specs.List.{AllByRecursion}
use Rattle.std.specs.Option.{is_some}
use Rattle.std.specs.Ordering.{is_eq}
use Rattle.std.specs.FinMap.{get}
use Rattle.std.specs.FinMap.Entries.{find}
use Rattle.kv_core.specs.Bytes.{key_cmp, key_le, key_lt}
use Rattle.kv_core.specs.Range.{KeyRange, contains}
use Rattle.kv_core.specs.Map.{Map, pairs_in}
use Rattle.kv_core.proofs.Order.{clash, le_from_lt, le_refl, lt_le_trans, tied_keys}
use Rattle.kv_core.proofs.Pairs.{InOrder, ordered_pairs, pairs_by_key}

abbrev Key : Type 0
Key = List ℕ

abbrev Pair : Type 0
Pair = Key × Key

-- whether a list has a pair with the key
abbrev has : Key → List Pair → Bool
has q es = is_some (find key_cmp q es)

-- a key comes before the keys of pairs where it comes before all of them
before_key : (k q : Key) (es : List Pair) → AllByRecursion (λ later. key_lt k later.0 ≡ true) es → has q es ≡ true → key_lt k q ≡ true
before_key k q [] a h = absurd (false≢true h)
before_key k q (e ∷ es) a h = elim (cases_Bool (is_eq (key_cmp q e.0))) [
  | inl same ↦ subst (λ x. key_lt k x ≡ true) (sym (tied_keys q e.0 same)) a.0
  | inr other ↦ before_key k q es a.1 (sym (ap (λ b. is_some (cond b (Some e.1) (find key_cmp q es))) other) ∙ h)
]

-- the first pair's key is there, and so is that of a later one
has_first : (e : Pair) (es : List Pair) → has e.0 (e ∷ es) ≡ true
has_first e es = ap (λ b. is_some (cond b (Some e.1) (find key_cmp e.0 es))) (ap is_eq (tied_itself nat_list_cmp_total e.0))

has_later : (e : Pair) (es : List Pair) (q : Key) → key_lt e.0 q ≡ true → has q (e ∷ es) ≡ has q es
has_later e es q after = ap (λ b. is_some (cond b (Some e.1) (find key_cmp q es)))
    (false_from_ne_true (is_eq (key_cmp q e.0)) (λ same. clash e.0 q after (subst (λ k. key_le q k ≡ true) (tied_keys q e.0 same) (le_refl q))))

-- a key among pairs in order is the first one's or comes after it
first_or_later : (e : Pair) (es : List Pair) (q : Key) → InOrder false (e ∷ es) → has q (e ∷ es) ≡ true → key_le e.0 q ≡ true
first_or_later e es q o h = elim (cases_Bool (is_eq (key_cmp q e.0))) [
  | inl same ↦ subst (λ k. key_le k q ≡ true) (tied_keys q e.0 same) (le_refl q)
  | inr other ↦ le_from_lt e.0 q (before_key e.0 q es o.0 (sym (ap (λ b. is_some (cond b (Some e.1) (find key_cmp q es))) other) ∙ h))
]

-- pairs in order, each of whose keys others in order have, are no more than those
fewer : (xs ys : List Pair) → InOrder false xs → InOrder false ys → ((q : Key) → has q xs ≡ true → has q ys ≡ true) → length xs ≤ length ys
fewer [] ys o p all = omega arith
fewer (x ∷ xs) [] o p all = absurd (false≢true (all x.0 (has_first x xs)))
fewer (x ∷ xs) (y ∷ ys) o p all = elim (cases_Bool (is_eq (key_cmp x.0 y.0))) [
  | inl same ↦
      let is = tied_keys x.0 y.0 same in
      let rest = fewer xs ys o.1 p.1
      (λ q h. let after = before_key x.0 q xs o.0 h in
      sym (has_later y ys q (subst (λ k. key_lt k q ≡ true) is after)) ∙ all q (has_later x xs q after ∙ h)) in
      omega (arith, rest)
  | inr other ↦
      let there = sym (ap (λ b. is_some (cond b (Some y.1) (find key_cmp x.0 ys))) other) ∙ all x.0 (has_first x xs) in
      let before = before_key y.0 x.0 ys p.0 there in
      let rest = fewer (x ∷ xs) ys o p.1
      (λ q h. sym (has_later y ys q (lt_le_trans y.0 x.0 q before (first_or_later x xs q o h))) ∙ all q h) in
      omega (arith, rest)
]

-- a map that has each key of another one in a range has as many pairs there
pub pairs_in-fewer : (f n : Map) (range : KeyRange) → ((q : List ℕ) → contains range q ≡ true → is_some (get f q) ≡ true → is_some (get n q) ≡ true) →
    length (pairs_in f range) ≤ length (pairs_in n range)
pairs_in-fewer f n range all = fewer (pairs_in f range) (pairs_in n range) (ordered_pairs f range false) (ordered_pairs n range false)
    (λ q h. ap is_some ((pairs_by_key n range).1 q) ∙ either q (contains range q) refl (sym (ap is_some ((pairs_by_key f range).1 q)) ∙ h))
  where
    either : (q : List ℕ) (b : Bool) → contains range q ≡ b → is_some (cond (contains range q) (get f q) None) ≡ true → is_some (cond (contains range q) (get n q) None) ≡ true
    either q true is h =
        ap (λ b. is_some (cond b (get n q) None)) is ∙ all q is (sym (ap (λ b. is_some (cond b (get f q) None)) is) ∙ h)
    either q false is h = absurd (false≢true (sym (ap (λ b. is_some (cond b (get f q) None)) is) ∙ h))
