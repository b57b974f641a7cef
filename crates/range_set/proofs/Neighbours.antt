-- The ranges that touch one which lies in a gap, the others, and the range that it makes with those that touch it.
use Rattle.std.proofs.Common.{◌≡◌, inl, inr, ℕ, Bool, true, false, not, cond, ◌&&◌, ◌||◌, List, [], ◌∷◌, refl, sym, ap, subst, ◌∙◌, IsTrue}
use Rattle.std.specs.List.{AllByRecursion, filter, list_any}
use Rattle.std.specs.Ordering.{is_eq}
use Rattle.std.proofs.lemmas.Bool.{and_parts, false_from_ne_true, or_cases, or_from, or_left, or_parts, or_right, true≢false}
use Rattle.tuple_codec.specs.Item.{AreBytes}
use Rattle.kv_core.specs.Bytes.{end_of_keys, key_cmp, key_le, key_lt}
use Rattle.kv_core.specs.Range.{KeyRange, contains}
use Rattle.kv_core.proofs.Order.{clash, le_from_lt, le_lt_trans, le_refl, lt_le_trans, tied_keys}
use Rattle.range_set.specs.Gaps.{has_position}
use Rattle.range_set.specs.Stored.{AreStored, IsInGap, IsStoredRange, begin_of_left, begins_at, end_of_right, ends_at, with_neighbours}
use Rattle.range_set.proofs.Inserts.{still_stored, with_inserted, with_inserted_any}
use Rattle.range_set.proofs.Walks.{none_low}

-- ---- what tests keep of ranges

any_parted : (test first second : KeyRange → Bool) (ranges : List KeyRange) →
    list_any test ranges
    ≡ ((list_any test (filter first ranges) || list_any test (filter second ranges)) || list_any test (filter (λ range. not (first range || second range)) ranges))
any_parted test first second [] = refl
any_parted test first second (range ∷ ranges) =
    ap (λ b. test range || b) (any_parted test first second ranges)
    ∙ by_tests (first range) (second range) (filter first ranges) (filter second ranges) (filter (λ one. not (first one || second one)) ranges)
  where
    both : (u a b o : Bool) → (u || ((a || b) || o)) ≡ (((u || a) || (u || b)) || o)
    both true a b o = refl
    both false a b o = refl

    left : (u a b o : Bool) → (u || ((a || b) || o)) ≡ (((u || a) || b) || o)
    left true a b o = refl
    left false a b o = refl

    right : (u a b o : Bool) → (u || ((a || b) || o)) ≡ ((a || (u || b)) || o)
    right true true b o = refl
    right true false b o = refl
    right false a b o = refl

    neither : (u a b o : Bool) → (u || ((a || b) || o)) ≡ ((a || b) || (u || o))
    neither true true b o = refl
    neither true false true o = refl
    neither true false false o = refl
    neither false a b o = refl

    by_tests : (x y : Bool) (firsts seconds rest : List KeyRange) →
        (test range || ((list_any test firsts || list_any test seconds) || list_any test rest))
        ≡ ((list_any test (cond x (range ∷ firsts) firsts) || list_any test (cond y (range ∷ seconds) seconds)) || list_any test (cond (not (x || y)) (range ∷ rest) rest))
    by_tests true true firsts seconds rest = both (test range) (list_any test firsts) (list_any test seconds) (list_any test rest)
    by_tests true false firsts seconds rest = left (test range) (list_any test firsts) (list_any test seconds) (list_any test rest)
    by_tests false true firsts seconds rest = right (test range) (list_any test firsts) (list_any test seconds) (list_any test rest)
    by_tests false false firsts seconds rest = neither (test range) (list_any test firsts) (list_any test seconds) (list_any test rest)

-- where none passes, none of those that are kept does
none_kept : (test kept : KeyRange → Bool) (ranges : List KeyRange) → list_any test ranges ≡ false → list_any test (filter kept ranges) ≡ false
none_kept test kept [] none = refl
none_kept test kept (range ∷ ranges) none =
    let parts = or_parts (test range) (list_any test ranges) none in
    by_test (kept range) parts.0 (none_kept test kept ranges parts.1)
  where
    by_test : (b : Bool) → test range ≡ false → list_any test (filter kept ranges) ≡ false → list_any test (cond b (range ∷ filter kept ranges) (filter kept ranges)) ≡ false
    by_test true here rest = or_from (test range) (list_any test (filter kept ranges)) here rest
    by_test false here rest = rest

-- nor where what passes is left out
none_left_out : (test out : KeyRange → Bool) → ((range : KeyRange) → test range ≡ true → out range ≡ true) → (ranges : List KeyRange) → list_any test (filter (λ range. not (out range)) ranges) ≡ false
none_left_out test out so [] = refl
none_left_out test out so (range ∷ ranges) = by_test (out range) refl (filter (λ one. not (out one)) ranges) (none_left_out test out so ranges)
  where
    by_test : (b : Bool) → out range ≡ b → (rest : List KeyRange) → list_any test rest ≡ false → list_any test (cond (not b) (range ∷ rest) rest) ≡ false
    by_test true is rest none = none
    by_test false is rest none = or_from (test range) (list_any test rest) (false_from_ne_true (test range) (λ has. true≢false (sym (so range has) ∙ is))) none

all_kept : (P : KeyRange → Type 0) (kept : KeyRange → Bool) (ranges : List KeyRange) → AllByRecursion P ranges → AllByRecursion P (filter kept ranges)
all_kept P kept [] all = tt
all_kept P kept (range ∷ ranges) all = by_test (kept range) (all_kept P kept ranges all.1)
  where
    by_test : (b : Bool) → AllByRecursion P (filter kept ranges) → AllByRecursion P (cond b (range ∷ filter kept ranges) (filter kept ranges))
    by_test true rest = (all.0, rest)
    by_test false rest = rest

kept_stored : (kept : KeyRange → Bool) (ranges : List KeyRange) → AreStored ranges → AreStored (filter kept ranges)
kept_stored kept [] stored = tt
kept_stored kept (range ∷ ranges) stored = by_test (kept range) (kept_stored kept ranges stored.2)
  where
    by_test : (b : Bool) → AreStored (filter kept ranges) → AreStored (cond b (range ∷ filter kept ranges) (filter kept ranges))
    by_test true rest = (stored.0, all_kept (λ later. IsTrue (key_le range.end later.begin)) kept ranges stored.1, rest)
    by_test false rest = rest

-- what has a position of some stored ranges has it of no others
no_others : (position : List ℕ) (kept other : KeyRange → Bool) → ((range : KeyRange) → kept range ≡ true → other range ≡ false) → (ranges : List KeyRange) → AreStored ranges →
    has_position (filter kept ranges) position ≡ true → has_position (filter other ranges) position ≡ false
no_others position kept other so [] stored has = refl
no_others position kept other so (range ∷ ranges) stored has = by_tests (kept range) (other range) refl refl has (no_others position kept other so ranges stored.2)
  where
    free : contains range position ≡ true → has_position ranges position ≡ false
    free inside = none_low range.end position ranges stored.1 (and_parts (key_le range.begin position) (key_lt position range.end) inside).1

    by_tests : (x y : Bool) → kept range ≡ x → other range ≡ y → has_position (cond x (range ∷ filter kept ranges) (filter kept ranges)) position ≡ true →
        (has_position (filter kept ranges) position ≡ true → has_position (filter other ranges) position ≡ false) → has_position (cond y (range ∷ filter other ranges) (filter other ranges)) position ≡ false
    by_tests true true here there has go = absurd (true≢false (sym there ∙ so range here))
    by_tests true false here there has go = elim (or_cases (contains range position) (has_position (filter kept ranges) position) has) [
      | inl inside ↦ none_kept (λ one. contains one position) other ranges (free inside)
      | inr later ↦ go later
    ]
    by_tests false true here there has go =
        or_from (contains range position) (has_position (filter other ranges) position)
        (false_from_ne_true (contains range position) (λ inside. true≢false (sym has ∙ none_kept (λ one. contains one position) kept ranges (free inside)))) (go has)
    by_tests false false here there has go = go has

-- ---- the range that ends at a position

-- no range ends where it begins, or before that
no_end : (position : List ℕ) (ranges : List KeyRange) → AreStored ranges → AllByRecursion (λ later. IsTrue (key_le position later.begin)) ranges → ends_at ranges position ≡ false
no_end position [] stored all = refl
no_end position (range ∷ ranges) stored all =
    or_from (is_eq (key_cmp range.end position)) (ends_at ranges position)
    (false_from_ne_true (is_eq (key_cmp range.end position))
    (λ same. clash range.begin range.end stored.0.some (subst (λ k. key_le k range.begin ≡ true) (sym (tied_keys range.end position same)) all.0)))
    (no_end position ranges stored.2 all.1)

no_left : (position : List ℕ) (ranges : List KeyRange) → ends_at ranges position ≡ false → begin_of_left ranges position ≡ position
no_left position [] none = refl
no_left position (range ∷ ranges) none =
    let parts = or_parts (is_eq (key_cmp range.end position)) (ends_at ranges position) none in
    ap (λ b. cond b range.begin (begin_of_left ranges position)) parts.0 ∙ no_left position ranges parts.1

left_is : (P : List ℕ → Type 0) (position : List ℕ) (ranges : List KeyRange) → AreStored ranges → P position → ((range : KeyRange) → IsStoredRange range → range.end ≡ position → P range.begin) → P (begin_of_left ranges position)
left_is P position [] stored none one = none
left_is P position (range ∷ ranges) stored none one = by_test (is_eq (key_cmp range.end position)) refl (left_is P position ranges stored.2 none one)
  where
    by_test : (b : Bool) → is_eq (key_cmp range.end position) ≡ b → P (begin_of_left ranges position) → P (cond b range.begin (begin_of_left ranges position))
    by_test true same rest = one range stored.0 (tied_keys range.end position same)
    by_test false other rest = rest

nothing : (begin position : List ℕ) → contains (record { begin = begin; end = begin }) position ≡ false
nothing begin position = false_from_ne_true (key_le begin position && key_lt position begin) (λ has. let parts = and_parts (key_le begin position) (key_lt position begin) has in clash position begin parts.1 parts.0)

or_nothing : (b : Bool) → (b || false) ≡ b
or_nothing true = refl
or_nothing false = refl

-- those that end there have the positions from its begin on
left_has : (at position : List ℕ) (ranges : List KeyRange) → AreStored ranges →
    has_position (filter (λ range. is_eq (key_cmp range.end at)) ranges) position ≡ contains (record { begin = begin_of_left ranges at; end = at }) position
left_has at position [] stored = sym (nothing at position)
left_has at position (range ∷ ranges) stored = by_test (is_eq (key_cmp range.end at)) refl (filter (λ one. is_eq (key_cmp one.end at)) ranges) (left_has at position ranges stored.2)
  where
    by_test : (b : Bool) → is_eq (key_cmp range.end at) ≡ b → (rest : List KeyRange) → has_position rest position ≡ contains (record { begin = begin_of_left ranges at; end = at }) position →
        has_position (cond b (range ∷ rest) rest) position ≡ contains (record { begin = cond b range.begin (begin_of_left ranges at); end = at }) position
    by_test true same rest go =
        let ends : range.end ≡ at = tied_keys range.end at same in
        let none : ends_at ranges at ≡ false = no_end at ranges stored.2 (subst (λ k. AllByRecursion (λ later. IsTrue (key_le k later.begin)) ranges) ends stored.1) in
        ap (λ b. contains range position || b) (go ∙ ap (λ k. contains (record { begin = k; end = at }) position) (no_left at ranges none) ∙ nothing at position)
        ∙ or_nothing (contains range position) ∙ ap (λ k. contains (record { begin = range.begin; end = k }) position) ends
    by_test false other rest go = go

-- each begins where that one does
none_so : (test : KeyRange → Bool) (P : KeyRange → Type 0) (ranges : List KeyRange) → list_any test ranges ≡ false → AllByRecursion (λ range. test range ≡ true → P range) ranges
none_so test P [] none = tt
none_so test P (range ∷ ranges) none = let parts = or_parts (test range) (list_any test ranges) none in (λ has. absurd (true≢false (sym has ∙ parts.0)), none_so test P ranges parts.1)

pub left_begins : (at : List ℕ) (ranges : List KeyRange) → AreStored ranges → AllByRecursion (λ range. is_eq (key_cmp range.end at) ≡ true → range.begin ≡ begin_of_left ranges at) ranges
left_begins at [] stored = tt
left_begins at (range ∷ ranges) stored = by_test (is_eq (key_cmp range.end at)) refl (left_begins at ranges stored.2)
  where
    by_test : (b : Bool) → is_eq (key_cmp range.end at) ≡ b → AllByRecursion (λ one. is_eq (key_cmp one.end at) ≡ true → one.begin ≡ begin_of_left ranges at) ranges →
        (is_eq (key_cmp range.end at) ≡ true → range.begin ≡ cond b range.begin (begin_of_left ranges at))
        × AllByRecursion (λ one. is_eq (key_cmp one.end at) ≡ true → one.begin ≡ cond b range.begin (begin_of_left ranges at)) ranges
    by_test true same rest =
        let none : ends_at ranges at ≡ false = no_end at ranges stored.2 (subst (λ k. AllByRecursion (λ later. IsTrue (key_le k later.begin)) ranges) (tied_keys range.end at same) stored.1) in
        (λ has. refl, none_so (λ one. is_eq (key_cmp one.end at)) (λ one. one.begin ≡ range.begin) ranges none)
    by_test false other rest = (λ has. absurd (true≢false (sym has ∙ other)), rest)

-- ---- the range that begins at a position

no_begin : (at low : List ℕ) (ranges : List KeyRange) → key_lt at low ≡ true → AllByRecursion (λ later. IsTrue (key_le low later.begin)) ranges → begins_at ranges at ≡ false
no_begin at low [] less all = refl
no_begin at low (range ∷ ranges) less all =
    or_from (is_eq (key_cmp range.begin at)) (begins_at ranges at)
    (false_from_ne_true (is_eq (key_cmp range.begin at)) (λ same. clash at low less (subst (λ k. key_le low k ≡ true) (tied_keys range.begin at same) all.0)))
    (no_begin at low ranges less all.1)

no_right : (at : List ℕ) (ranges : List KeyRange) → begins_at ranges at ≡ false → end_of_right ranges at ≡ at
no_right at [] none = refl
no_right at (range ∷ ranges) none =
    let parts = or_parts (is_eq (key_cmp range.begin at)) (begins_at ranges at) none in
    ap (λ b. cond b range.end (end_of_right ranges at)) parts.0 ∙ no_right at ranges parts.1

right_is : (P : List ℕ → Type 0) (at : List ℕ) (ranges : List KeyRange) → AreStored ranges → P at → ((range : KeyRange) → IsStoredRange range → range.begin ≡ at → P range.end) → P (end_of_right ranges at)
right_is P at [] stored none one = none
right_is P at (range ∷ ranges) stored none one = by_test (is_eq (key_cmp range.begin at)) refl (right_is P at ranges stored.2 none one)
  where
    by_test : (b : Bool) → is_eq (key_cmp range.begin at) ≡ b → P (end_of_right ranges at) → P (cond b range.end (end_of_right ranges at))
    by_test true same rest = one range stored.0 (tied_keys range.begin at same)
    by_test false other rest = rest

-- those that begin there have the positions up to its end
right_has : (at position : List ℕ) (ranges : List KeyRange) → AreStored ranges →
    has_position (filter (λ range. is_eq (key_cmp range.begin at)) ranges) position ≡ contains (record { begin = at; end = end_of_right ranges at }) position
right_has at position [] stored = sym (nothing at position)
right_has at position (range ∷ ranges) stored = by_test (is_eq (key_cmp range.begin at)) refl (filter (λ one. is_eq (key_cmp one.begin at)) ranges) (right_has at position ranges stored.2)
  where
    by_test : (b : Bool) → is_eq (key_cmp range.begin at) ≡ b → (rest : List KeyRange) → has_position rest position ≡ contains (record { begin = at; end = end_of_right ranges at }) position →
        has_position (cond b (range ∷ rest) rest) position ≡ contains (record { begin = at; end = cond b range.end (end_of_right ranges at) }) position
    by_test true same rest go =
        let begins : range.begin ≡ at = tied_keys range.begin at same in
        let none : begins_at ranges at ≡ false = no_begin at range.end ranges (subst (λ k. key_lt k range.end ≡ true) begins stored.0.some) stored.1 in
        ap (λ b. contains range position || b) (go ∙ ap (λ k. contains (record { begin = at; end = k }) position) (no_right at ranges none) ∙ nothing at position)
        ∙ or_nothing (contains range position) ∙ ap (λ k. contains (record { begin = k; end = range.end }) position) begins
    by_test false other rest go = go

-- ---- the range that one makes with those that touch it, among the others

-- another range touches it: it ends where that begins, or begins where that ends
abbrev pub touches : KeyRange → KeyRange → Bool
touches range other = is_eq (key_cmp other.end range.begin) || is_eq (key_cmp other.begin range.end)

abbrev pub others : KeyRange → List KeyRange → List KeyRange
others range ranges = filter (λ other. not (touches range other)) ranges

-- those that end at a position, and those that begin there
abbrev ending : List ℕ → List KeyRange → List KeyRange
ending at ranges = filter (λ range. is_eq (key_cmp range.end at)) ranges

abbrev beginning : List ℕ → List KeyRange → List KeyRange
beginning at ranges = filter (λ range. is_eq (key_cmp range.begin at)) ranges

-- the ranges that are stored once it is inserted
abbrev pub joined_ranges : KeyRange → List KeyRange → List KeyRange
joined_ranges range ranges = with_inserted (with_neighbours ranges range) (others range ranges)

-- a range is cut in two
cut : (begin at end position : List ℕ) → key_le begin at ≡ true → key_le at end ≡ true →
    contains (record { begin = begin; end = end }) position ≡ (contains (record { begin = begin; end = at }) position || contains (record { begin = at; end = end }) position)
cut begin at end position low high =
    by_tests (key_lt position begin) (key_lt position at) (key_lt position end) (λ less. lt_le_trans position begin at less low) (λ less. lt_le_trans position at end less high)
  where
    by_tests : (x y z : Bool) → (x ≡ true → y ≡ true) → (y ≡ true → z ≡ true) → (not x && z) ≡ ((not x && y) || (not y && z))
    by_tests true true z h k = refl
    by_tests true false z h k = absurd (true≢false (sym (h refl)))
    by_tests false true true h k = refl
    by_tests false true false h k = absurd (true≢false (sym (k refl)))
    by_tests false false z h k = refl

module _ (range : KeyRange) (ranges : List KeyRange) (is : IsStoredRange range) (stored : AreStored ranges) where
  begin_upto : key_le (begin_of_left ranges range.begin) range.begin ≡ true
  begin_upto = left_is (λ k. key_le k range.begin ≡ true) range.begin ranges stored (le_refl range.begin) (λ one h ends. subst (λ k. key_le one.begin k ≡ true) ends (le_from_lt one.begin one.end h.some))

  end_from : key_le range.end (end_of_right ranges range.end) ≡ true
  end_from = right_is (λ k. key_le range.end k ≡ true) range.end ranges stored (le_refl range.end) (λ one h begins. subst (λ k. key_le k one.end ≡ true) begins (le_from_lt one.begin one.end h.some))

  pub begin_below : key_lt (begin_of_left ranges range.begin) range.end ≡ true
  begin_below = le_lt_trans (begin_of_left ranges range.begin) range.begin range.end begin_upto is.some

  end_above : key_lt range.begin (end_of_right ranges range.end) ≡ true
  end_above = lt_le_trans range.begin range.end (end_of_right ranges range.end) is.some end_from

  -- STORED: it may be stored
  pub joined_is : IsStoredRange (with_neighbours ranges range)
  joined_is = record {
    some = le_lt_trans (begin_of_left ranges range.begin) range.begin (end_of_right ranges range.end) begin_upto end_above;
    upto = right_is (λ k. key_le k end_of_keys ≡ true) range.end ranges stored is.upto (λ one h begins. h.upto);
    begin = left_is AreBytes range.begin ranges stored is.begin (λ one h ends. h.begin);
    end = right_is AreBytes range.end ranges stored is.end (λ one h begins. h.end);
  }

  pub others_stored : AreStored (others range ranges)
  others_stored = kept_stored (λ other. not (touches range other)) ranges stored

  -- the positions that it has
  joined_has : (position : List ℕ) → contains (with_neighbours ranges range) position ≡ (has_position (ending range.begin ranges) position || (contains range position || has_position (beginning range.end ranges) position))
  joined_has position =
      cut (begin_of_left ranges range.begin) range.begin (end_of_right ranges range.end) position begin_upto (le_from_lt range.begin (end_of_right ranges range.end) end_above)
      ∙ (λ i. sym (left_has range.begin position ranges stored) i || behind i)
    where
      behind : contains (record { begin = range.begin; end = end_of_right ranges range.end }) position ≡ (contains range position || has_position (beginning range.end ranges) position)
      behind =
          cut range.begin range.end (end_of_right ranges range.end) position (le_from_lt range.begin range.end is.some) end_from
          ∙ ap (λ b. contains range position || b) (sym (right_has range.end position ranges stored))

  parted : (position : List ℕ) → has_position ranges position ≡ ((has_position (ending range.begin ranges) position || has_position (beginning range.end ranges) position) || has_position (others range ranges) position)
  parted position = any_parted (λ one. contains one position) (λ one. is_eq (key_cmp one.end range.begin)) (λ one. is_eq (key_cmp one.begin range.end)) ranges

  -- FREE: it lies in a gap of the others
  pub joined_free : IsInGap range ranges → IsInGap (with_neighbours ranges range) (others range ranges)
  joined_free gap position inside =
      elim (or_cases (has_position (ending range.begin ranges) position) (contains range position || has_position (beginning range.end ranges) position) (sym (joined_has position) ∙ inside)) [
        | inl ended ↦ no_others position (λ one. is_eq (key_cmp one.end range.begin)) (λ one. not (touches range one)) (λ one h. ap not (or_left (is_eq (key_cmp one.end range.begin)) (is_eq (key_cmp one.begin range.end)) h)) ranges stored ended
        | inr behind ↦ elim (or_cases (contains range position) (has_position (beginning range.end ranges) position) behind) [
          | inl within ↦ (or_parts (has_position (ending range.begin ranges) position || has_position (beginning range.end ranges) position) (has_position (others range ranges) position) (sym (parted position) ∙ gap position within)).1
          | inr begun ↦ no_others position (λ one. is_eq (key_cmp one.begin range.end)) (λ one. not (touches range one)) (λ one h. ap not (or_right (is_eq (key_cmp one.end range.begin)) (is_eq (key_cmp one.begin range.end)) h)) ranges stored begun
        ]
      ]

  -- AMONG: it and the others may be stored together
  pub joined_stored : IsInGap range ranges → AreStored (joined_ranges range ranges)
  joined_stored gap = still_stored (with_neighbours ranges range) (others range ranges) joined_is others_stored (joined_free gap)

  -- COVER: and have the positions of the range and of all
  pub joined_cover : (position : List ℕ) → has_position (joined_ranges range ranges) position ≡ (contains range position || has_position ranges position)
  joined_cover position =
      with_inserted_any (λ one. contains one position) (with_neighbours ranges range) (others range ranges)
      ∙ ap (λ b. b || has_position (others range ranges) position) (joined_has position)
      ∙ shuffle (has_position (ending range.begin ranges) position) (contains range position) (has_position (beginning range.end ranges) position) (has_position (others range ranges) position)
      ∙ ap (λ b. contains range position || b) (sym (parted position))
    where
      shuffle : (l r c o : Bool) → ((l || (r || c)) || o) ≡ (r || ((l || c) || o))
      shuffle true true c o = refl
      shuffle true false c o = refl
      shuffle false true c o = refl
      shuffle false false c o = refl

  -- APART: none of them ends where the range begins, or begins where it ends
  pub none_ends : ends_at (joined_ranges range ranges) range.begin ≡ false
  none_ends =
      with_inserted_any (λ one. is_eq (key_cmp one.end range.begin)) (with_neighbours ranges range) (others range ranges)
      ∙ or_from (is_eq (key_cmp (end_of_right ranges range.end) range.begin)) (ends_at (others range ranges) range.begin)
      (false_from_ne_true (is_eq (key_cmp (end_of_right ranges range.end) range.begin))
      (λ same. clash range.begin range.begin (subst (λ k. key_lt range.begin k ≡ true) (tied_keys (end_of_right ranges range.end) range.begin same) end_above) (le_refl range.begin)))
      (none_left_out (λ one. is_eq (key_cmp one.end range.begin)) (touches range) (λ one h. or_left (is_eq (key_cmp one.end range.begin)) (is_eq (key_cmp one.begin range.end)) h) ranges)

  pub none_begins : begins_at (joined_ranges range ranges) range.end ≡ false
  none_begins =
      with_inserted_any (λ one. is_eq (key_cmp one.begin range.end)) (with_neighbours ranges range) (others range ranges)
      ∙ or_from (is_eq (key_cmp (begin_of_left ranges range.begin) range.end)) (begins_at (others range ranges) range.end)
      (false_from_ne_true (is_eq (key_cmp (begin_of_left ranges range.begin) range.end))
      (λ same. clash range.end range.end (subst (λ k. key_lt k range.end ≡ true) (tied_keys (begin_of_left ranges range.begin) range.end same) begin_below) (le_refl range.end)))
      (none_left_out (λ one. is_eq (key_cmp one.begin range.end)) (touches range) (λ one h. or_right (is_eq (key_cmp one.end range.begin)) (is_eq (key_cmp one.begin range.end)) h) ranges)
