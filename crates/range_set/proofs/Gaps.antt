-- The first gap of a set of positions is told by the positions alone.
use Rattle.std.proofs.Common.{◌≡◌, ◌⊎◌, inl, inr, ℕ, Bool, true, false, not, cond, ◌&&◌, ◌||◌, List, [], ◌∷◌, map, Option, Some, None, refl, sym, ap, subst, ◌∙◌}
use Rattle.std.specs.List.{AllByRecursion, filter}
use Rattle.std.proofs.lemmas.Bool.{and_parts, cases_Bool, true≢false, false_from_ne_true}
use Rattle.kv_core.specs.Bytes.{end_of_keys, key_le, key_lt}
use Rattle.kv_core.specs.Range.{KeyRange, contains}
use Rattle.kv_core.proofs.Order.{cases_key, clash, le_both, le_from, le_from_lt, le_lt_trans, le_refl, le_trans, lt_le_trans}
use Rattle.range_set.specs.Gaps.{IsFirstGap, IsGap, SamePositions, first_gap, gap_begin, gap_end, has_position}
use Rattle.range_set.specs.Gaps.{least_key}

-- the key is one of the list
abbrev IsIn : List ℕ → List (List ℕ) → Type 0
IsIn key [] = ⊥
IsIn key (first ∷ keys) = (key ≡ first) ⊎ IsIn key keys

-- ---- the least of some keys

least_upto : (least : List ℕ) (keys : List (List ℕ)) → key_le (least_key least keys) least ≡ true
least_upto least [] = le_refl least
least_upto least (key ∷ keys) = by_test (key_lt key least) refl (least_upto key keys) (least_upto least keys)
  where
    by_test : (b : Bool) → key_lt key least ≡ b → key_le (least_key key keys) key ≡ true → key_le (least_key least keys) least ≡ true →
        key_le (least_key (cond b key least) keys) least ≡ true
    by_test true is low high = le_trans (least_key key keys) key least low (le_from_lt key least is)
    by_test false is low high = high

least_among : (least : List ℕ) (keys : List (List ℕ)) (one : List ℕ) → IsIn one keys → key_le (least_key least keys) one ≡ true
least_among least [] one is = absurd is
least_among least (key ∷ keys) one (inl here) = by_test (key_lt key least) refl (least_upto key keys) (least_upto least keys)
  where
    by_test : (b : Bool) → key_lt key least ≡ b → key_le (least_key key keys) key ≡ true → key_le (least_key least keys) least ≡ true →
        key_le (least_key (cond b key least) keys) one ≡ true
    by_test true is low high = subst (λ k. key_le (least_key key keys) k ≡ true) (sym here) low
    by_test false is low high = subst (λ k. key_le (least_key least keys) k ≡ true) (sym here) (le_trans (least_key least keys) least key high (le_from least key is))
least_among least (key ∷ keys) one (inr there) = by_test (key_lt key least) (least_among key keys one there) (least_among least keys one there)
  where
    by_test : (b : Bool) → key_le (least_key key keys) one ≡ true → key_le (least_key least keys) one ≡ true → key_le (least_key (cond b key least) keys) one ≡ true
    by_test true low high = low
    by_test false low high = high

-- it is the given key or one of the list, of which something holds
least_is : (P : List ℕ → Type 0) (least : List ℕ) (keys : List (List ℕ)) → P least → AllByRecursion P keys → P (least_key least keys)
least_is P least [] given all = given
least_is P least (key ∷ keys) given all = by_test (key_lt key least) (least_is P key keys all.0 all.1) (least_is P least keys given all.1)
  where
    by_test : (b : Bool) → P (least_key key keys) → P (least_key least keys) → P (least_key (cond b key least) keys)
    by_test true low high = low
    by_test false low high = high

-- ---- what a filter keeps

in_filter : (p : List ℕ → Bool) (keys : List (List ℕ)) (one : List ℕ) → IsIn one keys → p one ≡ true → IsIn one (filter p keys)
in_filter p [] one is holds = absurd is
in_filter p (key ∷ keys) one (inl here) holds = subst (λ b. IsIn one (cond b (key ∷ filter p keys) (filter p keys))) (sym (ap p (sym here) ∙ holds)) (inl here)
in_filter p (key ∷ keys) one (inr there) holds = by_test (p key) (in_filter p keys one there holds)
  where
    by_test : (b : Bool) → IsIn one (filter p keys) → IsIn one (cond b (key ∷ filter p keys) (filter p keys))
    by_test true rest = inr rest
    by_test false rest = rest

all_kept : (p : List ℕ → Bool) (keys : List (List ℕ)) → AllByRecursion (λ key. p key ≡ true) (filter p keys)
all_kept p [] = tt
all_kept p (key ∷ keys) = by_test (p key) refl (all_kept p keys)
  where
    by_test : (b : Bool) → p key ≡ b → AllByRecursion (λ one. p one ≡ true) (filter p keys) → AllByRecursion (λ one. p one ≡ true) (cond b (key ∷ filter p keys) (filter p keys))
    by_test true is rest = (is, rest)
    by_test false is rest = rest

-- ---- the greatest candidate at a position or before it

-- the greater of two keys, where the second is at the position or before it
abbrev raised : List ℕ → List ℕ → List ℕ → List ℕ
raised position most key = cond (key_le key position && key_lt most key) key most

abbrev greatest_upto : List ℕ → List ℕ → List (List ℕ) → List ℕ
greatest_upto position most [] = most
greatest_upto position most (key ∷ keys) = greatest_upto position (raised position most key) keys

raised_upto : (position most key : List ℕ) → key_le most position ≡ true → key_le (raised position most key) position ≡ true
raised_upto position most key upto = by_test (key_le key position && key_lt most key) refl
  where
    by_test : (b : Bool) → (key_le key position && key_lt most key) ≡ b → key_le (cond b key most) position ≡ true
    by_test true is = (and_parts (key_le key position) (key_lt most key) is).0
    by_test false is = upto

raised_from : (position most key : List ℕ) → key_le most (raised position most key) ≡ true
raised_from position most key = by_test (key_le key position && key_lt most key) refl
  where
    by_test : (b : Bool) → (key_le key position && key_lt most key) ≡ b → key_le most (cond b key most) ≡ true
    by_test true is = le_from_lt most key (and_parts (key_le key position) (key_lt most key) is).1
    by_test false is = le_refl most

raised_over : (position most key : List ℕ) → key_le key position ≡ true → key_le key (raised position most key) ≡ true
raised_over position most key upto = by_test (key_lt most key) refl
  where
    by_test : (b : Bool) → key_lt most key ≡ b → key_le key (cond (key_le key position && key_lt most key) key most) ≡ true
    by_test true is = subst (λ b. key_le key (cond b key most) ≡ true) (sym (λ i. upto i && is i)) (le_refl key)
    by_test false is = subst (λ b. key_le key (cond b key most) ≡ true) (sym (λ i. upto i && is i)) (le_from key most is)

greatest_is : (position most : List ℕ) (keys : List (List ℕ)) → key_le most position ≡ true → key_le (greatest_upto position most keys) position ≡ true
greatest_is position most [] upto = upto
greatest_is position most (key ∷ keys) upto = greatest_is position (raised position most key) keys (raised_upto position most key upto)

greatest_from : (position most : List ℕ) (keys : List (List ℕ)) → key_le most (greatest_upto position most keys) ≡ true
greatest_from position most [] = le_refl most
greatest_from position most (key ∷ keys) =
    le_trans most (raised position most key) (greatest_upto position (raised position most key) keys) (raised_from position most key) (greatest_from position (raised position most key) keys)

greatest_over : (position most : List ℕ) (keys : List (List ℕ)) (one : List ℕ) → IsIn one keys → key_le one position ≡ true → key_le one (greatest_upto position most keys) ≡ true
greatest_over position most [] one is upto = absurd is
greatest_over position most (key ∷ keys) one (inl here) upto =
    let low = raised_over position most key (subst (λ k. key_le k position ≡ true) here upto) in
    subst (λ k. key_le k (greatest_upto position (raised position most key) keys) ≡ true) (sym here)
    (le_trans key (raised position most key) (greatest_upto position (raised position most key) keys) low (greatest_from position (raised position most key) keys))
greatest_over position most (key ∷ keys) one (inr there) upto = greatest_over position (raised position most key) keys one there upto

greatest_in : (position most : List ℕ) (keys : List (List ℕ)) → IsIn (greatest_upto position most keys) (most ∷ keys)
greatest_in position most [] = inl refl
greatest_in position most (key ∷ keys) = by_test (key_le key position && key_lt most key) (greatest_in position key keys) (greatest_in position most keys)
  where
    by_test : (b : Bool) → IsIn (greatest_upto position key keys) (key ∷ keys) → IsIn (greatest_upto position most keys) (most ∷ keys) →
        IsIn (greatest_upto position (cond b key most) keys) (most ∷ key ∷ keys)
    by_test true low high = inr low
    by_test false (low) (inl same) = inl same
    by_test false (low) (inr there) = inr (inr there)

-- ---- ranges

abbrev IsOf : KeyRange → List KeyRange → Type 0
IsOf range [] = ⊥
IsOf range (first ∷ ranges) = (range ≡ first) ⊎ IsOf range ranges

-- a set position is in one of the ranges
built_by : (ranges : List KeyRange) (position : List ℕ) → has_position ranges position ≡ true → (range : KeyRange) × IsOf range ranges × (contains range position ≡ true)
built_by [] position is = cc
built_by (first ∷ ranges) position is = by_test (contains first position) refl is (built_by ranges position)
  where
    by_test : (b : Bool) → contains first position ≡ b → (b || has_position ranges position) ≡ true → (has_position ranges position ≡ true → (range : KeyRange) × IsOf range ranges × (contains range position ≡ true)) →
        (range : KeyRange) × IsOf range (first ∷ ranges) × (contains range position ≡ true)
    by_test true here any rest = (first, inl refl, here)
    by_test false here any rest = let r = rest any in (r.0, inr r.1, r.2)

-- and a position in one of the ranges is set
in_built : (ranges : List KeyRange) (range : KeyRange) (position : List ℕ) → IsOf range ranges → contains range position ≡ true → has_position ranges position ≡ true
in_built [] range position is has = absurd is
in_built (first ∷ ranges) range position (inl here) has = ap (λ b. b || has_position ranges position) (ap (λ r. contains r position) (sym here) ∙ has)
in_built (first ∷ ranges) range position (inr there) has = by_test (contains first position) (in_built ranges range position there has)
  where
    by_test : (b : Bool) → has_position ranges position ≡ true → (b || has_position ranges position) ≡ true
    by_test true rest = refl
    by_test false rest = rest

end_in : (ranges : List KeyRange) (range : KeyRange) → IsOf range ranges → IsIn range.end (map (λ r. r.end) ranges)
end_in [] range is = absurd is
end_in (first ∷ ranges) range (inl here) = inl (ap (λ r. r.end) here)
end_in (first ∷ ranges) range (inr there) = inr (end_in ranges range there)

begin_in : (ranges : List KeyRange) (range : KeyRange) → IsOf range ranges → IsIn range.begin (map (λ r. r.begin) ranges)
begin_in [] range is = absurd is
begin_in (first ∷ ranges) range (inl here) = inl (ap (λ r. r.begin) here)
begin_in (first ∷ ranges) range (inr there) = inr (begin_in ranges range there)

inside : (range : KeyRange) (position : List ℕ) → contains range position ≡ true → (key_le range.begin position ≡ true) × (key_lt position range.end ≡ true)
inside range position has = and_parts (key_le range.begin position) (key_lt position range.end) has

lies_in : (range : KeyRange) (position : List ℕ) → key_le range.begin position ≡ true → key_lt position range.end ≡ true → contains range position ≡ true
lies_in range position low high = λ i. low i && high i

-- nothing comes before no bytes
nothing_before : (position : List ℕ) → key_le [] position ≡ true
nothing_before [] = refl
nothing_before (b ∷ position) = refl

-- BEFORE: each position before the gap's begin is set
before_begin : (ranges : List KeyRange) (position : List ℕ) → key_lt position (gap_begin ranges) ≡ true → has_position ranges position ≡ true
before_begin ranges position low = elim (cases_Bool (has_position ranges position)) [
  | inl covered ↦ covered
  | inr bare_position ↦ absurd (elim (cases_Bool (has_position ranges most)) [
    | inl covered ↦
        let by = built_by ranges most covered in
        let parts = inside by.0 most by.2 in
        elim (cases_key position by.0.end) [
          | inl within ↦
              -- the range would have the position too
              true≢false (sym (in_built ranges by.0 position by.1 (lies_in by.0 position (le_trans by.0.begin most position parts.0 most_upto) within)) ∙ bare_position)
          | inr past ↦
              -- its end would be a greater candidate
              clash most by.0.end parts.1 (greatest_over position [] ends by.0.end (end_in ranges by.0 by.1) past)
        ]
    | inr bare ↦
        let candidate = in_filter (λ key. not (has_position ranges key)) ([] ∷ ends) most (greatest_in position [] ends) (ap not bare) in
        clash position (gap_begin ranges) low
        (le_trans (gap_begin ranges) most position (least_among end_of_keys (filter (λ key. not (has_position ranges key)) ([] ∷ ends)) most candidate) most_upto)
  ])
]
  where
    ends : List (List ℕ)
    ends = map (λ range. range.end) ranges

    most : List ℕ
    most = greatest_upto position [] ends

    most_upto : key_le most position ≡ true
    most_upto = greatest_is position [] ends (nothing_before position)

-- BEGIN: the gap's begin is the end of positions, or isn't set
begin_is : (ranges : List KeyRange) → (gap_begin ranges ≡ end_of_keys) ⊎ (has_position ranges (gap_begin ranges) ≡ false)
begin_is ranges =
    least_is (λ key. (key ≡ end_of_keys) ⊎ (has_position ranges key ≡ false)) end_of_keys (filter (λ key. not (has_position ranges key)) ([] ∷ map (λ range. range.end) ranges)) (inl refl)
    (each (filter (λ key. not (has_position ranges key)) ([] ∷ map (λ range. range.end) ranges)) (all_kept (λ key. not (has_position ranges key)) ([] ∷ map (λ range. range.end) ranges)))
  where
    turned : (b : Bool) → not b ≡ true → b ≡ false
    turned true h = cc
    turned false h = refl

    each : (keys : List (List ℕ)) → AllByRecursion (λ key. not (has_position ranges key) ≡ true) keys → AllByRecursion (λ key. (key ≡ end_of_keys) ⊎ (has_position ranges key ≡ false)) keys
    each [] all = tt
    each (key ∷ keys) all = (inr (turned (has_position ranges key) all.0), each keys all.1)

not_before_itself : (key : List ℕ) → key_lt key key ≡ true → ⊥
not_before_itself key is = clash key key is (le_refl key)

begin_bare : (ranges : List KeyRange) → key_lt (gap_begin ranges) end_of_keys ≡ true → has_position ranges (gap_begin ranges) ≡ false
begin_bare ranges low = elim (begin_is ranges) [
  | inl last ↦ absurd (not_before_itself end_of_keys (ap (λ k. key_lt k end_of_keys) (sym last) ∙ low))
  | inr bare ↦ bare
]

-- ENDS: what a gap that begins so ends at
ends_of : (ranges : List KeyRange) (begin : List ℕ) → AllByRecursion (λ key. (key_lt begin key && has_position ranges key) ≡ true)
    (filter (λ key. key_lt begin key && has_position ranges key) (map (λ range. range.begin) ranges))
ends_of ranges begin = all_kept (λ key. key_lt begin key && has_position ranges key) (map (λ range. range.begin) ranges)

end_after : (ranges : List KeyRange) (begin : List ℕ) → key_lt begin end_of_keys ≡ true → key_lt begin (gap_end ranges begin) ≡ true
end_after ranges begin low =
    least_is (λ key. key_lt begin key ≡ true) end_of_keys (filter (λ key. key_lt begin key && has_position ranges key) (map (λ range. range.begin) ranges)) low
    (each (filter (λ key. key_lt begin key && has_position ranges key) (map (λ range. range.begin) ranges)) (ends_of ranges begin))
  where
    each : (keys : List (List ℕ)) → AllByRecursion (λ key. (key_lt begin key && has_position ranges key) ≡ true) keys → AllByRecursion (λ key. key_lt begin key ≡ true) keys
    each [] all = tt
    each (key ∷ keys) all = ((and_parts (key_lt begin key) (has_position ranges key) all.0).0, each keys all.1)

end_is : (ranges : List KeyRange) (begin : List ℕ) → (gap_end ranges begin ≡ end_of_keys) ⊎ (has_position ranges (gap_end ranges begin) ≡ true)
end_is ranges begin =
    least_is (λ key. (key ≡ end_of_keys) ⊎ (has_position ranges key ≡ true)) end_of_keys (filter (λ key. key_lt begin key && has_position ranges key) (map (λ range. range.begin) ranges)) (inl refl)
    (each (filter (λ key. key_lt begin key && has_position ranges key) (map (λ range. range.begin) ranges)) (ends_of ranges begin))
  where
    each : (keys : List (List ℕ)) → AllByRecursion (λ key. (key_lt begin key && has_position ranges key) ≡ true) keys → AllByRecursion (λ key. (key ≡ end_of_keys) ⊎ (has_position ranges key ≡ true)) keys
    each [] all = tt
    each (key ∷ keys) all = (inr (and_parts (key_lt begin key) (has_position ranges key) all.0).1, each keys all.1)

-- WITHIN: no position of the gap is set
within_gap : (ranges : List KeyRange) (begin position : List ℕ) → has_position ranges begin ≡ false → key_le begin position ≡ true → key_lt position (gap_end ranges begin) ≡ true → has_position ranges position ≡ false
within_gap ranges begin position bare low high = false_from_ne_true (has_position ranges position) (λ covered.
    let by = built_by ranges position covered in
    let parts = inside by.0 position by.2 in
    elim (cases_key begin by.0.begin) [
      | inl later ↦
          let first = in_built ranges by.0 by.0.begin by.1 (lies_in by.0 by.0.begin (le_refl by.0.begin) (le_lt_trans by.0.begin position by.0.end parts.0 parts.1)) in
          clash position (gap_end ranges begin) high
          (le_trans (gap_end ranges begin) by.0.begin position
          (least_among end_of_keys (filter (λ key. key_lt begin key && has_position ranges key) (map (λ range. range.begin) ranges)) by.0.begin
          (in_filter (λ key. key_lt begin key && has_position ranges key) (map (λ range. range.begin) ranges) by.0.begin (begin_in ranges by.0 by.1) (λ i. later i && first i))) parts.0)
      | inr earlier ↦ true≢false (sym (in_built ranges by.0 begin by.1 (lies_in by.0 begin earlier (le_lt_trans begin position by.0.end low parts.1))) ∙ bare)
    ])

-- FIRST GAP: it is the first gap
pub first_gap_is : (ranges : List KeyRange) → IsFirstGap (has_position ranges) (first_gap ranges)
first_gap_is ranges = by_test (key_lt (gap_begin ranges) end_of_keys) refl
  where
    by_test : (b : Bool) → key_lt (gap_begin ranges) end_of_keys ≡ b →
        IsFirstGap (has_position ranges) (cond b (Some (record { begin = gap_begin ranges; end = gap_end ranges (gap_begin ranges) })) None)
    by_test true low =
        let bare = begin_bare ranges low in
        record {
          before = λ position lower. before_begin ranges position lower;
          within = λ position has. let parts = and_parts (key_le (gap_begin ranges) position) (key_lt position (gap_end ranges (gap_begin ranges))) has in within_gap ranges (gap_begin ranges) position bare parts.0 parts.1;
          some = end_after ranges (gap_begin ranges) low;
          upto = least_upto end_of_keys (filter (λ key. key_lt (gap_begin ranges) key && has_position ranges key) (map (λ range. range.begin) ranges));
          ends = λ lower. elim (end_is ranges (gap_begin ranges)) [
            | inl last ↦ absurd (not_before_itself end_of_keys (ap (λ k. key_lt k end_of_keys) (sym last) ∙ lower))
            | inr covered ↦ covered
          ];
        }
    by_test false none = λ position low. before_begin ranges position (lt_le_trans position end_of_keys (gap_begin ranges) low (le_from end_of_keys (gap_begin ranges) none))

-- ---- one first gap

-- sets with the same positions
abbrev pub SameTest : (List ℕ → Bool) → (List ℕ → Bool) → Type 0
SameTest f g = (position : List ℕ) → f position ≡ g position

whole_or_gap : (f g : List ℕ → Bool) → SameTest f g → ((position : List ℕ) → key_lt position end_of_keys ≡ true → f position ≡ true) → (gap : KeyRange) → IsGap g gap → ⊥
whole_or_gap f g same all gap is =
    true≢false (sym (all gap.begin (lt_le_trans gap.begin gap.end end_of_keys is.some is.upto)) ∙ same gap.begin
    ∙ is.within gap.begin (lies_in gap gap.begin (le_refl gap.begin) is.some))

begins_upto : (f g : List ℕ → Bool) → SameTest f g → (a b : KeyRange) → IsGap f a → IsGap g b → key_lt a.begin b.begin ≡ false
begins_upto f g same a b is other = false_from_ne_true (key_lt a.begin b.begin) (λ low.
    true≢false (sym (other.before a.begin low) ∙ sym (same a.begin) ∙ is.within a.begin (lies_in a a.begin (le_refl a.begin) is.some)))

ends_upto : (f g : List ℕ → Bool) → SameTest f g → (a b : KeyRange) → IsGap f a → IsGap g b → a.begin ≡ b.begin → key_lt a.end b.end ≡ false
ends_upto f g same a b is other begin = false_from_ne_true (key_lt a.end b.end) (λ low.
    true≢false (sym (is.ends (lt_le_trans a.end b.end end_of_keys low other.upto)) ∙ same a.end
    ∙ other.within a.end (lies_in b a.end (subst (λ k. key_le k a.end ≡ true) begin (le_from_lt a.begin a.end is.some)) low)))

-- UNIQUE: sets with the same positions have the same first gap
pub one_gap : (f g : List ℕ → Bool) → SameTest f g → (a b : Option KeyRange) → IsFirstGap f a → IsFirstGap g b → a ≡ b
one_gap f g same None None is other = refl
one_gap f g same None (Some b) is other = absurd (whole_or_gap f g same is b other)
one_gap f g same (Some a) None is other = absurd (whole_or_gap g f (λ position. sym (same position)) other a is)
one_gap f g same (Some a) (Some b) is other =
    let back : SameTest g f = λ position. sym (same position) in
    let begins : a.begin ≡ b.begin = le_both a.begin b.begin (begins_upto f g same a b is other) (begins_upto g f back b a other is) in
    let ends : a.end ≡ b.end = le_both a.end b.end (ends_upto f g same a b is other begins) (ends_upto g f back b a other is (sym begins)) in
    (λ i. Some (record { begin = begins i; end = ends i }))

-- SAME GAP: so do lists that cover the same positions
pub same_gap : (a b : List KeyRange) → SamePositions a b → first_gap a ≡ first_gap b
same_gap a b same = one_gap (has_position a) (has_position b) same (first_gap a) (first_gap b) (first_gap_is a) (first_gap_is b)
