-- The number of gaps of a set of positions: it is one alone, depends on the positions alone, and each set has one.
use Rattle.std.proofs.Common.{◌≡◌, ◌⊎◌, inl, inr, ℕ, zero, suc, arith, ◌≤◌, ◌<◌, Bool, true, false, cond, not, ◌||◌, List, [], ◌∷◌, length, map, refl, sym, ap, subst, ◌∙◌, Option, Some, None}
use Rattle.std.specs.Prelude.{filter, if◌then◌else◌}
use Rattle.std.specs.List.{AllByRecursion}
use Rattle.std.proofs.lemmas.Bool.{and_from, false_from_ne_true, true≢false}
use Rattle.kv_core.specs.Bytes.{end_of_keys, key_le, key_lt}
use Rattle.kv_core.specs.Range.{KeyRange, contains}
use Rattle.kv_core.proofs.Order.{cases_key, contains-begin, le_from, le_from_lt, le_gives, le_lt_trans, le_refl, lt_le_trans}
use Rattle.range_set.specs.Gaps.{IsFirstGap, IsGap, SamePositions, first_gap, gap_begin, gap_end, has_position}
use Rattle.range_set.specs.Gaps.{least_key}
use Rattle.range_set.proofs.Gaps.{first_gap_is, same_gap}
use Rattle.online_builder.specs.Advance.{HasGaps}

-- ---- positions alone

-- SAME: sets with the same positions have the same number of gaps
pub same_gaps : (set other : List KeyRange) (count : ℕ) → SamePositions set other → HasGaps set count → HasGaps other count
same_gaps set other zero same has = sym (same_gap set other same) ∙ has
same_gaps set other (suc count) same has = (
  has.0,
  sym (same_gap set other same) ∙ has.1,
  same_gaps (has.0 ∷ set) (has.0 ∷ other) count (λ position. ap (λ b. contains has.0 position || b) (same position)) has.2,
)

-- ONE: a set has no other number of gaps
pub one_count : (set : List KeyRange) (count other : ℕ) → HasGaps set count → HasGaps set other → count ≡ other
one_count set zero zero has had = refl
one_count set zero (suc other) has had = let no : ◌≡◌ {A = Option KeyRange} None (Some had.0) = sym has ∙ had.1 in absurd (cc)
one_count set (suc count) zero has had = let no : ◌≡◌ {A = Option KeyRange} None (Some has.0) = sym had ∙ has.1 in absurd (cc)
one_count set (suc count) (suc other) has had =
    let both : ◌≡◌ {A = Option KeyRange} (Some had.0) (Some has.0) = sym had.1 ∙ has.1 in
    let same : had.0 ≡ has.0 = cc in
    ap suc (one_count (has.0 ∷ set) count other has.2 (subst (λ gap. HasGaps (gap ∷ set) other) same had.2))

-- ---- where gaps begin

-- the first gap is one
pub gap_is : (set : List KeyRange) (gap : KeyRange) → first_gap set ≡ Some gap → IsGap (has_position set) gap
gap_is set gap is = subst (IsFirstGap (has_position set)) is (first_gap_is set)

-- a key is the end of one of the ranges
abbrev IsEnd : List ℕ → List KeyRange → Type 0
IsEnd key [] = ⊥
IsEnd key (range ∷ ranges) = (key ≡ range.end) ⊎ IsEnd key ranges

-- what holds of a key and of some keys holds of the least
least_has : (P : List ℕ → Type 0) (least : List ℕ) (keys : List (List ℕ)) → P least → AllByRecursion P keys → P (least_key least keys)
least_has P least [] own all = own
least_has P least (key ∷ keys) own all = least_has P (if key_lt key least then key else least) keys (by_test (key_lt key least)) all.1
  where
    by_test : (b : Bool) → P (cond b key least)
    by_test true = all.0
    by_test false = own

-- what holds of each holds of those that a test keeps
kept_all : {X : Type 0} (P : X → Type 0) (p : X → Bool) (xs : List X) → AllByRecursion P xs → AllByRecursion P (filter p xs)
kept_all P p [] all = tt
kept_all P p (x ∷ xs) all = by_test (p x) (kept_all P p xs all.1)
  where
    by_test : (b : Bool) → AllByRecursion P (filter p xs) → AllByRecursion P (cond b (x ∷ filter p xs) (filter p xs))
    by_test true rest = (all.0, rest)
    by_test false rest = rest

-- a gap begins at the end of positions, at the first one, or where a range ends
abbrev IsBegin : List KeyRange → List ℕ → Type 0
IsBegin set key = (key ≡ end_of_keys) ⊎ ((key ≡ []) ⊎ IsEnd key set)

begins : (set : List KeyRange) → IsBegin set (gap_begin set)
begins set =
    least_has (IsBegin set) end_of_keys (filter (λ key. not (has_position set key)) ([] ∷ map (λ (range : KeyRange). range.end) set)) (inl refl)
    (kept_all (IsBegin set) (λ key. not (has_position set key)) ([] ∷ map (λ (range : KeyRange). range.end) set) (inr (inl refl), each set (λ key is. is)))
  where
    each : (ranges : List KeyRange) → ((key : List ℕ) → IsEnd key ranges → IsEnd key set) → AllByRecursion (IsBegin set) (map (λ (range : KeyRange). range.end) ranges)
    each [] within = tt
    each (range ∷ ranges) within = (inr (inr (within range.end (inl refl))), each ranges (λ key is. within key (inr is)))

gap_begins : (set : List KeyRange) (gap : KeyRange) → first_gap set ≡ Some gap → gap.begin ≡ gap_begin set
gap_begins set gap is = by_test (key_lt (gap_begin set) end_of_keys) is
  where
    by_test : (b : Bool) → ◌≡◌ {A = Option KeyRange} (cond b (Some (record { begin = gap_begin set; end = gap_end set (gap_begin set) })) None) (Some gap) → gap.begin ≡ gap_begin set
    by_test true made = let same : record { begin = gap_begin set; end = gap_end set (gap_begin set) } ≡ gap = cc in ap (λ (g : KeyRange). g.begin) (sym same)
    by_test false made = absurd (cc)

begin_is : (set : List KeyRange) (gap : KeyRange) → first_gap set ≡ Some gap → IsBegin set gap.begin
begin_is set gap is = subst (IsBegin set) (sym (gap_begins set gap is)) (begins set)

-- ---- gap by gap

-- how many ranges end behind a key
abbrev behind : List ℕ → List KeyRange → ℕ
behind key set = length (filter (λ (range : KeyRange). key_lt key range.end) set)

-- no more end behind a later key
no_more : (low high : List ℕ) (set : List KeyRange) → key_lt low high ≡ true → behind high set ≤ behind low set
no_more low high [] less = omega arith
no_more low high (range ∷ ranges) less = by_tests (key_lt high range.end) refl (key_lt low range.end) refl (no_more low high ranges less)
  where
    by_tests : (a : Bool) → key_lt high range.end ≡ a → (b : Bool) → key_lt low range.end ≡ b → behind high ranges ≤ behind low ranges →
        length (cond a (range ∷ filter (λ (one : KeyRange). key_lt high one.end) ranges) (filter (λ (one : KeyRange). key_lt high one.end) ranges))
        ≤ length (cond b (range ∷ filter (λ (one : KeyRange). key_lt low one.end) ranges) (filter (λ (one : KeyRange). key_lt low one.end) ranges))
    by_tests true above true below rest = omega (arith, rest)
    by_tests true above false below rest = absurd (true≢false (sym (le_lt_trans low high range.end (le_from_lt low high less) above) ∙ below))
    by_tests false above true below rest = omega (arith, rest)
    by_tests false above false below rest = rest

-- where a range ends at the later key there are fewer
fewer : (low high : List ℕ) (set : List KeyRange) → key_lt low high ≡ true → IsEnd high set → behind high set < behind low set
fewer low high [] less there = absurd there
fewer low high (range ∷ ranges) less (inl is) =
    by_tests (key_lt high range.end) (key_lt low range.end) (ap (key_lt high) (sym is) ∙ le_gives high high (le_refl high)) (ap (key_lt low) (sym is) ∙ less) (no_more low high ranges less)
  where
    by_tests : (a b : Bool) → a ≡ false → b ≡ true → behind high ranges ≤ behind low ranges →
        length (cond a (range ∷ filter (λ (one : KeyRange). key_lt high one.end) ranges) (filter (λ (one : KeyRange). key_lt high one.end) ranges))
        < length (cond b (range ∷ filter (λ (one : KeyRange). key_lt low one.end) ranges) (filter (λ (one : KeyRange). key_lt low one.end) ranges))
    by_tests true b above below rest = absurd (cc)
    by_tests false true above below rest = omega (arith, rest)
    by_tests false false above below rest = absurd (cc)
fewer low high (range ∷ ranges) less (inr there) = by_tests (key_lt high range.end) refl (key_lt low range.end) refl (fewer low high ranges less there)
  where
    by_tests : (a : Bool) → key_lt high range.end ≡ a → (b : Bool) → key_lt low range.end ≡ b → behind high ranges < behind low ranges →
        length (cond a (range ∷ filter (λ (one : KeyRange). key_lt high one.end) ranges) (filter (λ (one : KeyRange). key_lt high one.end) ranges))
        < length (cond b (range ∷ filter (λ (one : KeyRange). key_lt low one.end) ranges) (filter (λ (one : KeyRange). key_lt low one.end) ranges))
    by_tests true above true below rest = omega (arith, rest)
    by_tests true above false below rest = absurd (true≢false (sym (le_lt_trans low high range.end (le_from_lt low high less) above) ∙ below))
    by_tests false above true below rest = omega (arith, rest)
    by_tests false above false below rest = rest

-- a position of two sets together
neither : (a b : Bool) → (a || b) ≡ false → (a ≡ false) × (b ≡ false)
neither true b is = absurd (true≢false is)
neither false b is = (refl, is)

none_before : (key : List ℕ) → key_lt key [] ≡ false
none_before [] = refl
none_before (byte ∷ key) = refl

module _ (set : List KeyRange) (gap next : KeyRange) (is : first_gap set ≡ Some gap) (some : first_gap (gap ∷ set) ≡ Some next) where
  first : IsGap (has_position set) gap
  first = gap_is set gap is

  second : IsGap (has_position (gap ∷ set)) next
  second = gap_is (gap ∷ set) next some

  outside : (contains gap next.begin ≡ false) × (has_position set next.begin ≡ false)
  outside = neither (contains gap next.begin) (has_position set next.begin) (second.within next.begin (contains-begin next second.some))

  -- the next gap begins where the first one ends, or behind that
  above : key_lt next.begin gap.end ≡ false
  above = false_from_ne_true (key_lt next.begin gap.end) (λ low. elim (cases_key next.begin gap.begin) [
    | inl before ↦ true≢false (sym (first.before next.begin before) ∙ outside.1)
    | inr from ↦ true≢false (sym (and_from (key_le gap.begin next.begin) (key_lt next.begin gap.end) from low) ∙ outside.0)
  ])

  later : key_lt gap.begin next.begin ≡ true
  later = lt_le_trans gap.begin gap.end next.begin first.some (le_from gap.end next.begin above)

  within : key_lt next.begin end_of_keys ≡ true
  within = lt_le_trans next.begin next.end end_of_keys second.some second.upto

  -- it begins where a range of the set ends
  there : IsEnd next.begin set
  there = by_begin (begin_is (gap ∷ set) next some)
    where
      by_begin : IsBegin (gap ∷ set) next.begin → IsEnd next.begin set
      by_begin (inl end) = absurd (true≢false (sym within ∙ ap (λ key. key_lt key end_of_keys) end))
      by_begin (inr (inl nothing)) = absurd (true≢false (sym later ∙ ap (key_lt gap.begin) nothing ∙ none_before gap.begin))
      by_begin (inr (inr (inl own))) = absurd (true≢false (sym (first.ends (ap (λ key. key_lt key end_of_keys) (sym own) ∙ within)) ∙ ap (has_position set) (sym own) ∙ outside.1))
      by_begin (inr (inr (inr end))) = end

  -- so fewer ranges end behind it
  falls : behind next.begin (gap ∷ set) < behind gap.begin set
  falls = by_test (key_lt next.begin gap.end) above (fewer gap.begin next.begin set later there)
    where
      by_test : (b : Bool) → b ≡ false → behind next.begin set < behind gap.begin set →
          length (cond b (gap ∷ filter (λ (one : KeyRange). key_lt next.begin one.end) set) (filter (λ (one : KeyRange). key_lt next.begin one.end) set)) < behind gap.begin set
      by_test true none rest = absurd (cc)
      by_test false none rest = rest

counted_from : (most : ℕ) (set : List KeyRange) (gap : KeyRange) → first_gap set ≡ Some gap → behind gap.begin set ≤ most → (count : ℕ) × HasGaps set count
counted_from zero set gap is few = by_next (first_gap (gap ∷ set)) refl
  where
    by_next : (o : Option KeyRange) → first_gap (gap ∷ set) ≡ o → (count : ℕ) × HasGaps set count
    by_next None none = (1, (gap, is, none))
    by_next (Some next) some = let less = falls set gap next is some in absurd (omega (arith, less, few))
counted_from (suc most) set gap is few = by_next (first_gap (gap ∷ set)) refl (λ next some low. counted_from most (gap ∷ set) next some low)
  where
    by_next : (o : Option KeyRange) → first_gap (gap ∷ set) ≡ o → ((next : KeyRange) → first_gap (gap ∷ set) ≡ Some next → behind next.begin (gap ∷ set) ≤ most → (count : ℕ) × HasGaps (gap ∷ set) count) → (count : ℕ) × HasGaps set count
    by_next None none go = (1, (gap, is, none))
    by_next (Some next) some go = let less = falls set gap next is some in let rest = go next some (omega (arith, less, few)) in (suc rest.0, (gap, is, rest.1))

-- COUNTED: each set has a number of gaps
pub counted : (set : List KeyRange) → (count : ℕ) × HasGaps set count
counted set = by_gap (first_gap set) refl
  where
    by_gap : (o : Option KeyRange) → first_gap set ≡ o → (count : ℕ) × HasGaps set count
    by_gap None none = (0, none)
    by_gap (Some gap) is = counted_from (behind gap.begin set) set gap is (omega arith)
