-- The first gap of stored ranges is found by going through them in order.
use Rattle.std.proofs.Common.{◌≡◌, inl, inr, ℕ, Bool, true, false, not, cond, ◌&&◌, ◌||◌, List, [], ◌∷◌, Some, None, refl, ap, ◌∙◌, IsTrue}
use Rattle.std.specs.List.{AllByRecursion}
use Rattle.std.proofs.lemmas.Bool.{false_from_ne_true}
use Rattle.kv_core.specs.Bytes.{end_of_keys, key_le, key_lt}
use Rattle.kv_core.specs.Range.{KeyRange, contains}
use Rattle.kv_core.proofs.Order.{cases_key, clash, le_from, le_from_lt, le_refl, le_trans, lt_le_trans}
use Rattle.range_set.specs.Gaps.{IsFirstGap, first_gap, has_position}
use Rattle.range_set.specs.Steps.{gap_from}
use Rattle.range_set.specs.Stored.{AreStored}
use Rattle.range_set.proofs.Gaps.{first_gap_is, one_gap}
use Rattle.range_set.proofs.Inserts.{all_later, first_has, lies_in}
use Rattle.range_set.proofs.RangeRows.{all_from}

-- ranges that begin at a position or behind it have no position before it
pub none_low : (low position : List ℕ) (ranges : List KeyRange) → AllByRecursion (λ later. IsTrue (key_le low later.begin)) ranges → key_lt position low ≡ true → has_position ranges position ≡ false
none_low low position [] all less = refl
none_low low position (range ∷ ranges) all less =
    ap (λ b. (not b && key_lt position range.end) || has_position ranges position) (lt_le_trans position low range.begin less all.0) ∙ none_low low position ranges all.1 less

-- what is found from a position on is the first gap, where each position before that is in the set
walks : (is_in : List ℕ → Bool) (begin : List ℕ) (ranges : List KeyRange) → AreStored ranges → AllByRecursion (λ later. IsTrue (key_le begin later.begin)) ranges → key_le begin end_of_keys ≡ true →
    ((position : List ℕ) → key_lt position begin ≡ true → is_in position ≡ true) → ((position : List ℕ) → key_le begin position ≡ true → is_in position ≡ has_position ranges position) →
    IsFirstGap is_in (gap_from begin ranges)
walks is_in begin [] stored all high before same = by_test (key_lt begin end_of_keys) refl
  where
    by_test : (b : Bool) → key_lt begin end_of_keys ≡ b → IsFirstGap is_in (cond b (Some (record { begin = begin; end = end_of_keys })) None)
    by_test true some = record {
      before = before;
      within = λ position has. let parts = split position has in same position parts.0;
      some = some;
      upto = le_refl end_of_keys;
      ends = λ less. absurd (clash end_of_keys end_of_keys less (le_refl end_of_keys));
    }
      where
        split : (position : List ℕ) → (key_le begin position && key_lt position end_of_keys) ≡ true → (key_le begin position ≡ true) × (key_lt position end_of_keys ≡ true)
        split position has = both (key_le begin position) (key_lt position end_of_keys) has
          where
            both : (a b : Bool) → (a && b) ≡ true → (a ≡ true) × (b ≡ true)
            both true b h = (refl, h)
            both false b h = cc
    by_test false none = λ position less. before position (lt_le_trans position end_of_keys begin less (le_from end_of_keys begin none))
walks is_in begin (range ∷ ranges) stored all high before same =
    by_test (key_lt begin range.begin) refl
    (walks is_in range.end ranges stored.2 stored.1 stored.0.upto)
  where
    both : (a b : Bool) → (a && b) ≡ true → (a ≡ true) × (b ≡ true)
    both true b h = (refl, h)
    both false b h = cc

    -- the position where the range begins is in the set
    at_begin : is_in range.begin ≡ true
    at_begin = same range.begin all.0 ∙ first_has range ranges range.begin (lies_in range range.begin (le_refl range.begin) stored.0.some)

    by_test : (b : Bool) → key_lt begin range.begin ≡ b →
        (((position : List ℕ) → key_lt position range.end ≡ true → is_in position ≡ true) → ((position : List ℕ) → key_le range.end position ≡ true → is_in position ≡ has_position ranges position) → IsFirstGap is_in (gap_from range.end ranges)) →
        IsFirstGap is_in (cond b (Some (record { begin = begin; end = range.begin })) (gap_from range.end ranges))
    by_test true some go = record {
      before = before;
      within = λ position has.
          let parts = both (key_le begin position) (key_lt position range.begin) has in
          same position parts.0
          ∙ none_low range.begin position (range ∷ ranges) (le_refl range.begin, all_later range.begin range.end ranges (le_from_lt range.begin range.end stored.0.some) stored.1) parts.1;
      some = some;
      upto = le_trans range.begin range.end end_of_keys (le_from_lt range.begin range.end stored.0.some) stored.0.upto;
      ends = λ less. at_begin;
    }
    by_test false none go =
        go
        (λ position less. elim (cases_key position begin) [
          | inl low ↦ before position low
          | inr later ↦ same position later ∙ first_has range ranges position (lies_in range position (le_trans range.begin begin position (le_from range.begin begin none) later) less)
        ])
        (λ position past.
        same position (le_trans begin range.end position (le_trans begin range.begin range.end all.0 (le_from_lt range.begin range.end stored.0.some)) past)
        ∙ ap (λ b. b || has_position ranges position) (false_from_ne_true (contains range position) (λ has. clash position range.end (both (key_le range.begin position) (key_lt position range.end) has).1 past)))

-- WALK: going through stored ranges finds the first gap of each set with their positions
pub gap_found : (ranges set : List KeyRange) → AreStored ranges → ((position : List ℕ) → has_position ranges position ≡ has_position set position) → gap_from [] ranges ≡ first_gap set
gap_found ranges set stored same =
    one_gap (has_position ranges) (has_position set) same (gap_from [] ranges) (first_gap set)
    (walks (has_position ranges) [] ranges stored (all_from ranges) refl (λ position less. absurd (nothing_before position less)) (λ position h. refl)) (first_gap_is set)
  where
    nothing_before : (position : List ℕ) → key_lt position [] ≡ true → ⊥
    nothing_before [] less = cc
    nothing_before (b ∷ position) less = cc
