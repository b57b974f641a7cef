-- Ranges with one more that lies in a gap of them: they may still be stored, and their pairs are those and one more.
use Rattle.std.proofs.Common.{◌≡◌, inl, inr, ℕ, Bool, true, false, cond, ◌||◌, List, [], ◌∷◌, map, Some, refl, sym, ap, ◌∙◌, ◌&&◌, IsTrue}
use Rattle.std.specs.BTreeMap.{is_at}
use Rattle.std.specs.List.{AllByRecursion, list_any}
use Rattle.std.specs.Map.{lookup}
use Rattle.std.specs.Ordering.{is_eq, is_lt}
use Rattle.std.proofs.lemmas.Bool.{true≢false, false_from_ne_true}
use Rattle.std.proofs.lemmas.Cmp.{nat_list_cmp_total, tied_itself}
use Rattle.tuple_codec.specs.Item.{AreBytes}
use Rattle.kv_core.specs.Bytes.{key_cmp, key_le, key_lt}
use Rattle.kv_core.specs.Range.{KeyRange, contains}
use Rattle.kv_core.proofs.Order.{cases_key, le_from, le_from_lt, le_refl, le_trans, lt_le_trans, tied_keys}
use Rattle.range_set.specs.Gaps.{has_position}
use Rattle.range_set.specs.Stored.{AreStored, IsInGap, IsStoredRange, range_key, range_pair}
use Rattle.range_set.proofs.PlacePairs.{key_order}

abbrev Pair : Type 0
Pair = List ℕ × List ℕ

-- ---- the order of what is left

pub lies_in : (range : KeyRange) (position : List ℕ) → key_le range.begin position ≡ true → key_lt position range.end ≡ true → contains range position ≡ true
lies_in range position low high = λ i. low i && high i

pub first_has : (range : KeyRange) (ranges : List KeyRange) (position : List ℕ) → contains range position ≡ true → has_position (range ∷ ranges) position ≡ true
first_has range ranges position has = ap (λ b. b || has_position ranges position) has

rest_gap : (range first : KeyRange) (ranges : List KeyRange) → IsInGap range (first ∷ ranges) → IsInGap range ranges
rest_gap range first ranges gap position has = parts (contains first position) (has_position ranges position) (gap position has)
  where
    parts : (a b : Bool) → (a || b) ≡ false → b ≡ false
    parts true b h = cc
    parts false b h = h

-- one ends where the other begins, or before
ends_before : (range first : KeyRange) (ranges : List KeyRange) → IsInGap range (first ∷ ranges) → IsStoredRange first → key_lt range.begin first.begin ≡ true → key_le range.end first.begin ≡ true
ends_before range first ranges gap is low = elim (cases_key first.begin range.end) [
  | inl inside ↦ absurd (true≢false (sym (first_has first ranges first.begin (lies_in first first.begin (le_refl first.begin) is.some))
      ∙ gap first.begin (lies_in range first.begin (le_from_lt range.begin first.begin low) inside)))
  | inr past ↦ past
]

begins_after : (range first : KeyRange) (ranges : List KeyRange) → IsInGap range (first ∷ ranges) → IsStoredRange range → key_lt range.begin first.begin ≡ false → key_le first.end range.begin ≡ true
begins_after range first ranges gap is high = elim (cases_key range.begin first.end) [
  | inl inside ↦ absurd (true≢false (sym (first_has first ranges range.begin (lies_in first range.begin (le_from first.begin range.begin high) inside))
      ∙ gap range.begin (lies_in range range.begin (le_refl range.begin) is.some)))
  | inr past ↦ past
]

pub all_later : (low high : List ℕ) (ranges : List KeyRange) → key_le low high ≡ true → AllByRecursion (λ later. IsTrue (key_le high later.begin)) ranges → AllByRecursion (λ later. IsTrue (key_le low later.begin)) ranges
all_later low high [] upto all = tt
all_later low high (range ∷ ranges) upto all = (le_trans low high range.begin upto all.0, all_later low high ranges upto all.1)

-- ranges with one more, in the order of their begins
abbrev pub with_inserted : KeyRange → List KeyRange → List KeyRange
with_inserted range [] = range ∷ []
with_inserted range (first ∷ ranges) = cond (key_lt range.begin first.begin) (range ∷ first ∷ ranges) (first ∷ with_inserted range ranges)

all_with : (P : KeyRange → Type 0) (range : KeyRange) (ranges : List KeyRange) → P range → AllByRecursion P ranges → AllByRecursion P (with_inserted range ranges)
all_with P range [] p all = (p, tt)
all_with P range (first ∷ ranges) p all = by_test (key_lt range.begin first.begin) (all_with P range ranges p all.1)
  where
    by_test : (b : Bool) → AllByRecursion P (with_inserted range ranges) → AllByRecursion P (cond b (range ∷ first ∷ ranges) (first ∷ with_inserted range ranges))
    by_test true rest = (p, all)
    by_test false rest = (all.0, rest)

-- STORED: they may still be stored
pub still_stored : (range : KeyRange) (ranges : List KeyRange) → IsStoredRange range → AreStored ranges → IsInGap range ranges → AreStored (with_inserted range ranges)
still_stored range [] is stored gap = (is, tt, tt)
still_stored range (first ∷ ranges) is stored gap = by_test (key_lt range.begin first.begin) refl (still_stored range ranges is stored.2 (rest_gap range first ranges gap))
  where
    by_test : (b : Bool) → key_lt range.begin first.begin ≡ b → AreStored (with_inserted range ranges) → AreStored (cond b (range ∷ first ∷ ranges) (first ∷ with_inserted range ranges))
    by_test true low rest =
        let ends = ends_before range first ranges gap stored.0 low in
        (is, (ends, all_later range.end first.end ranges (le_trans range.end first.begin first.end ends (le_from_lt first.begin first.end stored.0.some)) stored.1), stored)
    by_test false high rest =
        (stored.0, all_with (λ later. IsTrue (key_le first.end later.begin)) range ranges (begins_after range first ranges gap is high) stored.1, rest)

-- ANY: one of them passes a test where the new one does or one of the others
pub with_inserted_any : (test : KeyRange → Bool) (range : KeyRange) (ranges : List KeyRange) → list_any test (with_inserted range ranges) ≡ (test range || list_any test ranges)
with_inserted_any test range [] = refl
with_inserted_any test range (first ∷ ranges) = by_test (key_lt range.begin first.begin) (with_inserted_any test range ranges)
  where
    swap : (a b c : Bool) → (b || (a || c)) ≡ (a || (b || c))
    swap true true c = refl
    swap true false c = refl
    swap false b c = refl

    by_test : (b : Bool) → list_any test (with_inserted range ranges) ≡ (test range || list_any test ranges) →
        list_any test (cond b (range ∷ first ∷ ranges) (first ∷ with_inserted range ranges)) ≡ (test range || (test first || list_any test ranges))
    by_test true rest = refl
    by_test false rest = ap (λ b. test first || b) rest ∙ swap (test range) (test first) (list_any test ranges)

-- ---- their pairs

-- the key of a range is another's only where both begin alike
key_differs : (place : List ℕ) (a b : List ℕ) → AreBytes a → AreBytes b → key_lt a b ≡ true → is_eq (key_cmp (range_key place b) (range_key place a)) ≡ false
key_differs place a b h k low = false_from_ne_true (is_eq (key_cmp (range_key place b) (range_key place a))) (λ same.
    true≢false (sym low ∙ ap is_lt (sym (key_order place a b h k) ∙ ap (key_cmp (range_key place a)) (tied_keys (range_key place b) (range_key place a) same)
    ∙ tied_itself nat_list_cmp_total (range_key place a))))

-- PAIRS: a key has the new range's end, or what it had
pub looked_up : (place : List ℕ) (range : KeyRange) (ranges : List KeyRange) (q : List ℕ) → IsStoredRange range → AreStored ranges → IsInGap range ranges →
    lookup (is_at (key_cmp q)) (map (range_pair place) (with_inserted range ranges))
    ≡ cond (is_eq (key_cmp q (range_key place range.begin))) (Some range.end) (lookup (is_at (key_cmp q)) (map (range_pair place) ranges))
looked_up place range [] q is stored gap = refl
looked_up place range (first ∷ ranges) q is stored gap =
    by_test (key_lt range.begin first.begin) refl (looked_up place range ranges q is stored.2 (rest_gap range first ranges gap))
  where
    rest_pairs : List Pair
    rest_pairs = map (range_pair place) ranges

    by_test : (b : Bool) → key_lt range.begin first.begin ≡ b →
        lookup (is_at (key_cmp q)) (map (range_pair place) (with_inserted range ranges))
        ≡ cond (is_eq (key_cmp q (range_key place range.begin))) (Some range.end) (lookup (is_at (key_cmp q)) rest_pairs) →
        lookup (is_at (key_cmp q)) (map (range_pair place) (cond b (range ∷ first ∷ ranges) (first ∷ with_inserted range ranges)))
        ≡ cond (is_eq (key_cmp q (range_key place range.begin))) (Some range.end) (lookup (is_at (key_cmp q)) (map (range_pair place) (first ∷ ranges)))
    by_test true low rest = refl
    by_test false high rest =
        ap (λ l. cond (is_eq (key_cmp q (range_key place first.begin))) (Some first.end) l) rest
        ∙ turned (is_eq (key_cmp q (range_key place first.begin))) (is_eq (key_cmp q (range_key place range.begin))) refl refl
      where
        -- first begins before the range, since it ends at its begin or before it
        lower : key_lt first.begin range.begin ≡ true
        lower = lt_le_trans first.begin first.end range.begin stored.0.some (begins_after range first ranges gap is high)

        turned : (f r : Bool) → is_eq (key_cmp q (range_key place first.begin)) ≡ f → is_eq (key_cmp q (range_key place range.begin)) ≡ r →
            cond f (Some first.end) (cond r (Some range.end) (lookup (is_at (key_cmp q)) rest_pairs)) ≡ cond r (Some range.end) (cond f (Some first.end) (lookup (is_at (key_cmp q)) rest_pairs))
        turned true true f r = absurd (true≢false (
            sym f ∙ ap (λ k. is_eq (key_cmp k (range_key place first.begin))) (tied_keys q (range_key place range.begin) r)
            ∙ key_differs place first.begin range.begin stored.0.begin is.begin lower))
        turned true false f r = refl
        turned false r f s = refl
