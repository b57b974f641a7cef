-- A step of a builder leaves less to be built.
use Rattle.std.proofs.Common.{◌≡◌, inl, inr, ℕ, zero, suc, arith, ◌+◌, ◌≤◌, Bool, true, false, cond, not, ◌&&◌, ◌||◌, List, [], ◌∷◌, length, take, refl, sym, ap, subst, ◌∙◌, Option, Some, None}
use Rattle.std.specs.Prelude.{filter}
use Rattle.std.proofs.lemmas.Bool.{and_parts, and_from, false_from_ne_true, or_right, true≢false}
use Rattle.kv_core.specs.Bytes.{key_le, key_lt}
use Rattle.kv_core.specs.Range.{KeyRange, contains}
use Rattle.kv_core.proofs.Order.{cases_key, clash, le_both, le_from, le_from_lt, le_gives, le_refl, le_trans, lt_le_trans}
use Rattle.range_set.specs.Gaps.{IsGap, first_gap, has_position}
use Rattle.range_set.specs.Stored.{IsInGap}
use Rattle.range_set.proofs.Gaps.{first_gap_is, one_gap}
use Rattle.metadata.specs.Record.{Record}
use Rattle.metadata.specs.Records.{of_type}
use Rattle.index_maint.specs.Built.{position}
use Rattle.index_maint.specs.Kept.{records_within}
use Rattle.index_maint.specs.Parts.{IsFirstPart, end_behind, first_part}
use Rattle.index_maint.proofs.FirstParts.{first_parts}
use Rattle.record_store.specs.Store.{built, built_by, built_of}
use Rattle.record_store.proofs.BuildHolds.{built_itself}
use Rattle.online_builder.specs.Advance.{HasAdvanced, HasGaps, StepsAdvance, unbuilt}
use Rattle.online_builder.proofs.GapCounts.{gap_is, same_gaps}

-- ---- records

-- the records of a range in a gap aren't unbuilt any more once the range is built
fewer_unbuilt : (range : KeyRange) (set : List KeyRange) (records : List Record) → IsInGap range set →
    length (filter (λ r. not (has_position (range ∷ set) (position r))) records) + length (filter (λ r. contains range (position r)) records) ≡ length (filter (λ r. not (has_position set (position r))) records)
fewer_unbuilt range set [] gap = refl
fewer_unbuilt range set (r ∷ records) gap = by_tests (contains range (position r)) refl (has_position set (position r)) refl (fewer_unbuilt range set records gap)
  where
    now : List Record
    now = filter (λ s. not (has_position (range ∷ set) (position s))) records

    there : List Record
    there = filter (λ s. contains range (position s)) records

    before : List Record
    before = filter (λ s. not (has_position set (position s))) records

    by_tests : (a : Bool) → contains range (position r) ≡ a → (b : Bool) → has_position set (position r) ≡ b → length now + length there ≡ length before →
        length (cond (not (a || b)) (r ∷ now) now) + length (cond a (r ∷ there) there) ≡ length (cond (not b) (r ∷ before) before)
    by_tests true here true has rest = absurd (true≢false (sym has ∙ gap (position r) here))
    by_tests true here false has rest = omega (arith, rest)
    by_tests false here true has rest = rest
    by_tests false here false has rest = omega (arith, rest)

-- ---- gaps

module _ (set : List KeyRange) (gap part : KeyRange) (is : first_gap set ≡ Some gap) (begins : part.begin ≡ gap.begin) (upto : key_le part.end gap.end ≡ true) (some : key_lt part.begin part.end ≡ true) where
  first : IsGap (has_position set) gap
  first = gap_is set gap is

  -- ALL: a part that ends where the gap does is the gap
  pub whole_part : key_lt part.end gap.end ≡ false → part ≡ gap
  whole_part none = let ends = le_both part.end gap.end none (le_gives part.end gap.end upto) in λ i. record { begin = begins i; end = ends i }

  -- what is left of the gap
  abbrev rest : KeyRange
  rest = record { begin = part.end; end = gap.end }

  low : key_le gap.begin part.end ≡ true
  low = subst (λ key. key_le key part.end ≡ true) begins (le_from_lt part.begin part.end some)

  -- a position of the gap is one of the part or of the rest
  pub parted : (at : List ℕ) → contains gap at ≡ (contains rest at || contains part at)
  parted at =
      by_tests (key_le gap.begin at) (key_lt at part.end) (key_lt at gap.end) (λ none. le_trans gap.begin part.end at low (le_from part.end at none)) (λ before. lt_le_trans at part.end gap.end before upto)
      ∙ ap (λ key. contains rest at || (key_le key at && key_lt at part.end)) (sym begins)
    where
      by_tests : (x y z : Bool) → (y ≡ false → x ≡ true) → (y ≡ true → z ≡ true) → (x && z) ≡ ((not y && z) || (x && y))
      by_tests true true true from to = refl
      by_tests true true false from to = absurd (true≢false (sym (to refl)))
      by_tests false true z from to = refl
      by_tests true false true from to = refl
      by_tests true false false from to = refl
      by_tests false false z from to = absurd (true≢false (sym (from refl)))

  -- REST: else the rest is the first gap then
  pub rest_first : key_lt part.end gap.end ≡ true → first_gap (part ∷ set) ≡ Some rest
  rest_first less = one_gap (has_position (part ∷ set)) (has_position (part ∷ set)) (λ at. refl) (first_gap (part ∷ set)) (Some rest) (first_gap_is (part ∷ set)) (record {
    before = λ at before. elim (cases_key at gap.begin) [
      | inl earlier ↦ or_right (contains part at) (has_position set at) (first.before at earlier)
      | inr from ↦ ap (λ b. b || has_position set at) (and_from (key_le part.begin at) (key_lt at part.end) (subst (λ key. key_le key at ≡ true) (sym begins) from) before)
    ];
    within = λ at inside.
        let parts = and_parts (key_le part.end at) (key_lt at gap.end) inside in
        let apart : contains part at ≡ false = false_from_ne_true (contains part at) (λ here. clash at part.end (and_parts (key_le part.begin at) (key_lt at part.end) here).1 parts.0) in
        ap (λ b. b || has_position set at) apart ∙ first.within at (and_from (key_le gap.begin at) (key_lt at gap.end) (le_trans gap.begin part.end at low parts.0) parts.1);
    some = less;
    upto = first.upto;
    ends = λ before. or_right (contains part gap.end) (has_position set gap.end) (first.ends before);
  })

  -- with the rest too the set has the gap's positions
  pub rest_same : (at : List ℕ) → has_position (gap ∷ set) at ≡ has_position (rest ∷ part ∷ set) at
  rest_same at = ap (λ b. b || has_position set at) (parted at) ∙ assoc (contains rest at) (contains part at) (has_position set at)
    where
      assoc : (a b c : Bool) → ((a || b) || c) ≡ (a || (b || c))
      assoc true b c = refl
      assoc false b c = refl

-- ---- a step

-- a part that ends before the gap does has a record
none_end : (limit : ℕ) (records : List Record) (end : List ℕ) → 1 ≤ limit → take limit records ≡ [] → end_behind limit records end ≡ end
none_end zero records end least none = absurd (omega (arith, least))
none_end (suc limit) [] end least none = refl
none_end (suc limit) (r ∷ records) end least none = absurd (cc)

filled : (xs : List Record) → (xs ≡ [] → ⊥) → 1 ≤ length xs
filled [] some = absurd (some refl)
filled (x ∷ xs) some = omega arith

pub steps_advance : StepsAdvance
steps_advance store index limit zero gap least lawful has is = let no : ◌≡◌ {A = Option KeyRange} None (Some gap) = sym has ∙ is in absurd (cc)
steps_advance store index limit (suc gaps) gap least lawful has is = by_end (key_lt part.end gap.end) refl
  where
    set : List KeyRange
    set = built_of store index.number

    part : KeyRange
    part = first_part limit gap index store.records

    is_part : IsFirstPart limit gap part index store.records
    is_part = first_parts limit gap index store.records least lawful.ordered lawful.storable

    is_gap : IsGap (has_position set) gap
    is_gap = gap_is set gap is

    free : IsInGap part set
    free = λ at inside. is_gap.within at (is_part.inside at inside)

    same : has.0 ≡ gap
    same = let both : ◌≡◌ {A = Option KeyRange} (Some has.0) (Some gap) = sym has.1 ∙ is in cc

    left : HasGaps (gap ∷ set) gaps
    left = subst (λ g. HasGaps (g ∷ set) gaps) same has.2

    taken : unbuilt (built store index.number part) index + length (records_within part index store.records) ≡ unbuilt store index
    taken =
        ap (λ ranges. length (filter (λ r. not (has_position ranges (position r))) (of_type index.type_number store.records)) + length (records_within part index store.records)) (ap built_by (built_itself store index.number part))
        ∙ fewer_unbuilt part set (of_type index.type_number store.records) free

    by_end : (b : Bool) → key_lt part.end gap.end ≡ b → HasAdvanced index store (built store index.number part) (suc gaps) (length (records_within part index store.records))
    by_end false none = record {
      left = gaps;
      counted =
          subst (λ ranges. HasGaps ranges gaps) (sym (ap built_by (built_itself store index.number part)))
          (subst (λ range. HasGaps (range ∷ set) gaps) (sym (whole_part set gap part is refl is_part.upto (is_part.some is_gap.some) none)) left);
      no_more = omega arith;
      records = taken;
      fewer = inl (omega arith);
    }
    by_end true less = record {
      left = suc gaps;
      counted =
          subst (λ ranges. HasGaps ranges (suc gaps)) (sym (ap built_by (built_itself store index.number part))) (
            record { begin = part.end; end = gap.end },
            rest_first set gap part is refl is_part.upto (is_part.some is_gap.some) less,
            same_gaps (gap ∷ set) (record { begin = part.end; end = gap.end } ∷ part ∷ set) gaps (rest_same set gap part is refl is_part.upto (is_part.some is_gap.some)) left,
          );
      no_more = omega arith;
      records = taken;
      fewer = inr (filled (records_within part index store.records) (λ nothing. true≢false (sym less ∙ ap (λ end. key_lt end gap.end) (none_end limit (records_within gap index store.records) gap.end least (sym is_part.first ∙ nothing)) ∙ le_gives gap.end gap.end (le_refl gap.end))));
    }
