-- Stretches by their begins and ends, and what the last of them before a key decides.
use Rattle.std.proofs.Common.{◌≡◌, ℕ, Bool, true, false, None, Some, Option, cond, List, [], ◌∷◌, ◌⊎◌, inl, inr, refl, sym, ap, subst, ◌∙◌}
use Rattle.std.proofs.lemmas.Bool.{false≢true, true≢false, and_from, and_parts, or_cases, or_from, or_left, or_right, cases_Bool, false_from_ne_true}
use Rattle.std.proofs.lemmas.Cmp.{nat_list_cmp_total, tied_itself}
use Rattle.std.proofs.lemmas.Map.Keys.{sorted_head, sorted_tail}
use Rattle.std.specs.declared.cmp.Ordering.{Ordering}
use Rattle.std.specs.declared.cmp.Ordering.TheVariants.{Less, Equal, Greater}
use Rattle.std.specs.BTreeMap.{is_at}
use Rattle.std.specs.List.{AllByRecursion, list_any}
use Rattle.std.specs.List.Sorted.{IsStrictlySortedBy}
use Rattle.std.specs.Map.{keys_of, lookup}
use Rattle.std.specs.Option.{IsSome, is_some}
use Rattle.std.specs.Ordering.{is_eq, is_gt, is_lt}
use Rattle.kv_core.specs.Bytes.{key_cmp, key_le, key_lt}
use Rattle.kv_core.specs.Range.{KeyRange, any_meets, has_keys, is_within, meets}
use Rattle.kv_core.specs.Coverage.{AreStretches, EndsAt, stretches_of}
use Rattle.kv_core.proofs.Lists.{same_truth}
use Rattle.kv_core.proofs.Order.{cases_key, le_both, le_from, le_from_lt, le_gives, le_lt_trans, le_refl, le_trans, lt_is_gt, lt_le_trans, meets-from, meets-gives, tied_keys, tied_swap}

abbrev pub Key : Type 0
Key = List ℕ

abbrev pub Pair : Type 0
Pair = Key × Key

abbrev pub IsAscending : List Pair → Type 0
IsAscending es = IsStrictlySortedBy key_cmp (keys_of es)

-- nothing is no end, and an end is one
pub nowhere : {v : Key} → None ≡ Some v → ⊥
nowhere h = cc

pub one_end : {v w : Key} → Some v ≡ Some w → v ≡ w
one_end h = cc

-- the end at the first begin, and at a later one, which comes after it
pub ends_first : (e : Pair) (es : List Pair) → EndsAt (e ∷ es) e.0 e.1
ends_first e es = ap (λ b. cond b (Some e.1) (lookup (is_at (key_cmp e.0)) es)) (ap is_eq (tied_itself nat_list_cmp_total e.0))

past_head : (x : Key) (es : List Pair) (q t : Key) → AllByRecursion (λ y. key_cmp x y ≡ Less) (keys_of es) → EndsAt es q t → key_cmp x q ≡ Less
past_head x [] q t a h = absurd (nowhere h)
past_head x (e ∷ es) q t a h = elim (cases_Bool (is_eq (key_cmp q e.0))) [
  | inl same ↦ subst (λ k. key_cmp x k ≡ Less) (sym (tied_keys q e.0 same)) a.0
  | inr other ↦ past_head x es q t a.1 (sym (ap (λ b. cond b (Some e.1) (lookup (is_at (key_cmp q)) es)) other) ∙ h)
]

pub after_first : (e : Pair) (es : List Pair) (q t : Key) → IsAscending (e ∷ es) → EndsAt es q t → key_lt e.0 q ≡ true
after_first e es q t up h = ap is_lt (past_head e.0 es q t (sorted_head key_cmp e.0 (keys_of es) up) h)

pub ends_later : (e : Pair) (es : List Pair) (q t : Key) → IsAscending (e ∷ es) → EndsAt es q t → EndsAt (e ∷ es) q t
ends_later e es q t up h = ap (λ b. cond b (Some e.1) (lookup (is_at (key_cmp q)) es)) apart ∙ h
  where
    apart : is_eq (key_cmp q e.0) ≡ false
    apart = tied_swap q e.0 ∙ ap is_eq (past_head e.0 es q t (sorted_head key_cmp e.0 (keys_of es) up) h)

-- the end at a begin is the first one's, or that of a later one
pub ends_cases : (e : Pair) (es : List Pair) (q t : Key) → EndsAt (e ∷ es) q t → ((q ≡ e.0) × (t ≡ e.1)) ⊎ EndsAt es q t
ends_cases e es q t h = elim (cases_Bool (is_eq (key_cmp q e.0))) [
  | inl same ↦ inl (tied_keys q e.0 same, one_end (sym h ∙ ap (λ b. cond b (Some e.1) (lookup (is_at (key_cmp q)) es)) same))
  | inr other ↦ inr (sym (ap (λ b. cond b (Some e.1) (lookup (is_at (key_cmp q)) es)) other) ∙ h)
]

-- a begin has one end
pub same_end : (es : List Pair) (q t u : Key) → EndsAt es q t → EndsAt es q u → t ≡ u
same_end es q t u h k = one_end (sym h ∙ k)

-- a stretch that passes a test, as a begin and its end
pub any_at : (p : KeyRange → Bool) (es : List Pair) → IsAscending es → list_any p (stretches_of es) ≡ true →
    (begin : Key) × (end : Key) × EndsAt es begin end × (p (record { begin = begin; end = end }) ≡ true)
any_at p [] up any = absurd (false≢true any)
any_at p (e ∷ es) up any = elim (or_cases (p (record { begin = e.0; end = e.1 })) (list_any p (stretches_of es)) any) [
  | inl here ↦ (e.0, e.1, ends_first e es, here)
  | inr later ↦
      let rest = any_at p es (sorted_tail key_cmp e.0 (keys_of es) up) later in
      (rest.0, rest.1, ends_later e es rest.0 rest.1 up rest.2, rest.3)
]

pub any_from : (p : KeyRange → Bool) (es : List Pair) (begin end : Key) → EndsAt es begin end → p (record { begin = begin; end = end }) ≡ true → list_any p (stretches_of es) ≡ true
any_from p [] begin end h passes = absurd (nowhere h)
any_from p (e ∷ es) begin end h passes = elim (ends_cases e es begin end h) [
  | inl here ↦ or_left _ _ (subst (λ t. p (record { begin = e.0; end = t }) ≡ true) here.1 (subst (λ s. p (record { begin = s; end = end }) ≡ true) here.0 passes))
  | inr later ↦ or_right _ _ (any_from p es begin end later passes)
]

-- a stretch that doesn't begin after another one doesn't end after it
pub rises_upto : (es : List Pair) → AreStretches es → (p t q u : Key) → EndsAt es p t → EndsAt es q u → key_lt p q ≡ false → key_le u t ≡ true
rises_upto es s p t q u at_p at_q last = elim (cases_Bool (key_lt q p)) [
  | inl before ↦ le_from_lt u t (s.rise q u p t at_q at_p before)
  | inr same ↦
      let q≡p : q ≡ p = le_both q p same last in
      subst (λ v. key_le u v ≡ true) (same_end es p u t (subst (λ k. EndsAt es k u) q≡p at_q) at_p) (le_refl u)
]

-- the stretches after the first are some
pub stretches_tail : (e : Pair) (es : List Pair) → IsAscending (e ∷ es) → AreStretches (e ∷ es) → AreStretches es
stretches_tail e es up s = record {
  have_keys = λ q t h. s.have_keys q t (ends_later e es q t up h);
  rise = λ q t r u h k lt. s.rise q t r u (ends_later e es q t up h) (ends_later e es r u up k) lt;
}

less_is : (r : Ordering) → is_lt r ≡ true → r ≡ Less
less_is Less h = refl
less_is Equal h = absurd (false≢true h)
less_is Greater h = absurd (false≢true h)

has_end : {v : Key} (o : Option Key) → o ≡ Some v → IsSome o
has_end o h = ap is_some h

-- the stretch that begins last before the end of a range with keys meets it, if any does
pub meets_last : (range : KeyRange) (es : List Pair) (p t : Key) → IsAscending es → AreStretches es → EndsAt es p t → has_keys range ≡ true → key_cmp p range.end ≡ Less →
    ((q : Key) → key_cmp q range.end ≡ Less → IsSome (lookup (is_at (key_cmp q)) es) → is_lt (key_cmp p q) ≡ false) → key_lt range.begin t ≡ any_meets range (stretches_of es)
meets_last range es p t up s at_p keys before last = same_truth _ _ meets_it only
  where
    meets_it : key_lt range.begin t ≡ true → any_meets range (stretches_of es) ≡ true
    meets_it h = any_from (meets range) es p t at_p
        (elim (cases_key range.begin p) [
          | inl later ↦
              meets-from range (record { begin = p; end = t }) p
              (and_from (key_le range.begin p) (key_lt p range.end) (le_from_lt range.begin p later) (ap is_lt before))
              (and_from (key_le p p) (key_lt p t) (le_refl p) (s.have_keys p t at_p))
          | inr upto ↦
              meets-from range (record { begin = p; end = t }) range.begin
              (and_from (key_le range.begin range.begin) (key_lt range.begin range.end) (le_refl range.begin) keys)
              (and_from (key_le p range.begin) (key_lt range.begin t) upto h)
        ])

    only : any_meets range (stretches_of es) ≡ true → key_lt range.begin t ≡ true
    only h =
        let one = any_at (meets range) es up h in
        let k = meets-gives range (record { begin = one.0; end = one.1 }) one.3 in
        let parts = and_parts (key_le range.begin k.0) (key_lt k.0 range.end) k.1 in
        let ends = and_parts (key_le one.0 k.0) (key_lt k.0 one.1) k.2 in
        let not_after = last one.0 (less_is _ (le_lt_trans one.0 k.0 range.end ends.0 parts.1)) (has_end _ one.2) in
        le_lt_trans range.begin k.0 t parts.0 (lt_le_trans k.0 one.1 t ends.1 (rises_upto es s p t one.0 one.1 at_p one.2 not_after))

-- none meets a range before whose end none begins, or a range with no keys
pub meets_none : (range : KeyRange) (es : List Pair) → IsAscending es → ((q : Key) → key_cmp q range.end ≡ Less → lookup (is_at (key_cmp q)) es ≡ None) → any_meets range (stretches_of es) ≡ false
meets_none range es up none = false_from_ne_true _
    (λ h. let one = any_at (meets range) es up h in
    let k = meets-gives range (record { begin = one.0; end = one.1 }) one.3 in
    let parts = and_parts (key_le range.begin k.0) (key_lt k.0 range.end) k.1 in
    let ends = and_parts (key_le one.0 k.0) (key_lt k.0 one.1) k.2 in
    nowhere (sym (none one.0 (less_is _ (le_lt_trans one.0 k.0 range.end ends.0 parts.1))) ∙ one.2))

pub meets_empty : (range : KeyRange) (rs : List KeyRange) → has_keys range ≡ false → any_meets range rs ≡ false
meets_empty range [] h = refl
meets_empty range (r ∷ rs) h = or_from _ _
    (false_from_ne_true (meets range r)
    (λ m. let k = meets-gives range r m in
    let parts = and_parts (key_le range.begin k.0) (key_lt k.0 range.end) k.1 in
    true≢false (sym (le_lt_trans range.begin k.0 range.end parts.0 parts.1) ∙ h)))
    (meets_empty range rs h)

-- a range lies in the stretch that begins last of those that don't begin after it, if in any
pub within_last : (range : KeyRange) (es : List Pair) (p t : Key) → IsAscending es → AreStretches es → EndsAt es p t → is_gt (key_cmp p range.begin) ≡ false →
    ((q : Key) → is_gt (key_cmp q range.begin) ≡ false → IsSome (lookup (is_at (key_cmp q)) es) → is_lt (key_cmp p q) ≡ false) → key_le range.end t ≡ list_any (is_within range) (stretches_of es)
within_last range es p t up s at_p upto last = same_truth _ _
    (λ h. any_from (is_within range) es p t at_p (and_from (key_le p range.begin) (key_le range.end t) (le_from p range.begin (lt_is_gt p range.begin ∙ upto)) h))
    (λ h. let one = any_at (is_within range) es up h in
    let ends = and_parts (key_le one.0 range.begin) (key_le range.end one.1) one.3 in
    let not_after = last one.0 (sym (lt_is_gt one.0 range.begin) ∙ le_gives one.0 range.begin ends.0) (has_end _ one.2) in
    le_trans range.end one.1 t ends.1 (rises_upto es s p t one.0 one.1 at_p one.2 not_after))

pub within_none : (range : KeyRange) (es : List Pair) → IsAscending es → ((q : Key) → is_gt (key_cmp q range.begin) ≡ false → lookup (is_at (key_cmp q)) es ≡ None) → list_any (is_within range) (stretches_of es) ≡ false
within_none range es up none = false_from_ne_true _
    (λ h. let one = any_at (is_within range) es up h in
    let ends = and_parts (key_le one.0 range.begin) (key_le range.end one.1) one.3 in
    nowhere (sym (none one.0 (sym (lt_is_gt one.0 range.begin) ∙ le_gives one.0 range.begin ends.0)) ∙ one.2))
