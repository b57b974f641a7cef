-- What is known of a list of ranges by the buckets in which they stand.
use Rattle.std.proofs.Common.{◌≡◌, ℕ, ◌+◌, ◌-◌, ◌<◌, ◌≤◌, true, false, List, [], ◌∷◌, ◌++◌, length, map, get_or, set, inl, inr, sym, ap, subst, ◌∙◌, arith, length-append}
use Rattle.std.proofs.Math.Seq.{get_or-append_seam}
use Rattle.std.proofs.lemmas.Bool.{cases_eq, cases_lt, false_from_ne_true, false≢true}
use Rattle.std.proofs.lemmas.List.{get_or_default, get_or-map, get_or-set_other, get_or-set_same, get_or_append_left, length-map, length-set, map-append}
use Rattle.std.proofs.lemmas.List.Folds.{list_any_none}
use Rattle.std.proofs.lemmas.Nat.{and_le_r}
use Rattle.std.specs.List.{list_any}
use Rattle.kv_core.specs.Range.{KeyRange, is_same_range}
use Rattle.kv_core.specs.declared.range_index.RangeIndex.{RangeIndex}
use Rattle.kv_core.specs.RangeIndex.{HasIndex, IsChained, IsLastIn, bucket_of, range_hash}
use Rattle.kv_core.proofs.Order.{is_same_range-equal}

-- a range's bucket is one of so many
pub bucket_within : (count : ℕ) (range : KeyRange) → 0 < count → bucket_of count range < count
bucket_within count range some = omega (arith, and_le_r (range_hash range) (count - 1))

-- ---- one more item

-- the last item of a bucket stays that where others follow
stays_last : (bucket : ℕ) (xs ys : List ℕ) (count last : ℕ) → count ≤ length xs → IsLastIn bucket xs count last → IsLastIn bucket (xs ++ ys) count last
stays_last bucket xs ys count last fits is = record {
  within = is.within;
  is_of = λ some. let within = is.within in get_or_append_left xs ys 0 (last - 1) (omega arith) ∙ is.is_of some;
  is_last = λ place before same. is.is_last place before (sym (get_or_append_left xs ys 0 place (omega arith)) ∙ same);
}

-- it is the one that is put behind the others
new_last : (bucket : ℕ) (xs : List ℕ) (last : ℕ) → last ≡ length xs + 1 → IsLastIn bucket (xs ++ bucket ∷ []) (length (xs ++ bucket ∷ [])) last
new_last bucket xs last at = record {
  within = omega (arith, length-append xs (bucket ∷ []));
  is_of = λ some. subst (λ i. get_or (xs ++ bucket ∷ []) i 0 ≡ bucket) {x = length xs} (omega arith) (get_or-append_seam xs bucket [] 0);
  is_last = λ place before same. omega (arith, length-append xs (bucket ∷ []));
}

-- or the same as before, where that is of another bucket
other_last : (bucket other : ℕ) (xs : List ℕ) (last : ℕ) → (other ≡ bucket → ⊥) → IsLastIn bucket xs (length xs) last → IsLastIn bucket (xs ++ other ∷ []) (length (xs ++ other ∷ [])) last
other_last bucket other xs last apart is =
    let stays = stays_last bucket xs (other ∷ []) (length xs) last (omega arith) is in
    record {
      within = let within = is.within in omega (arith, length-append xs (other ∷ []));
      is_of = stays.is_of;
      is_last = λ place before same. elim (cases_lt place (length xs)) [
        | inl lower ↦ stays.is_last place lower same
        | inr not ↦
            let behind : length xs ≡ place = omega (arith, length-append xs (other ∷ [])) in
            absurd (apart (sym (get_or-append_seam xs other [] 0) ∙ subst (λ i. get_or (xs ++ other ∷ []) i 0 ≡ bucket) {x = place} (sym behind) same))
      ];
    }

-- so all that is known is known of a list with one more
pub chained_more : (last before buckets : List ℕ) (bucket : ℕ) → bucket < length last → IsChained last before buckets →
    IsChained (set last bucket (length before + 1)) (before ++ get_or last bucket 0 ∷ []) (buckets ++ bucket ∷ [])
chained_more last before buckets bucket within is = record {
  as_long = let same = is.as_long in omega (arith, length-append before (get_or last bucket 0 ∷ []), length-append buckets (bucket ∷ []));
  of_each = λ own there. elim (cases_eq own bucket) [
    | inl e ↦
        let same = is.as_long in
        subst (λ b. IsLastIn b (buckets ++ bucket ∷ []) (length (buckets ++ bucket ∷ [])) (get_or (set last bucket (length before + 1)) b 0)) (sym e)
        (new_last bucket buckets (get_or (set last bucket (length before + 1)) bucket 0)
        (get_or-set_same last bucket (length before + 1) 0 within ∙ ap (λ n. n + 1) same))
    | inr apart ↦
        subst (IsLastIn own (buckets ++ bucket ∷ []) (length (buckets ++ bucket ∷ []))) (sym (get_or-set_other last bucket own (length before + 1) 0 apart))
        (other_last own bucket buckets (get_or last own 0) (λ e. apart (sym e)) (is.of_each own (omega (arith, length-set last bucket (length before + 1)))))
  ];
  before_each = λ place there. elim (cases_lt place (length buckets)) [
    | inl lower ↦
        let same = is.as_long in
        subst (λ b. IsLastIn b (buckets ++ bucket ∷ []) place (get_or (before ++ get_or last bucket 0 ∷ []) place 0)) (sym (get_or_append_left buckets (bucket ∷ []) 0 place lower))
        (subst (IsLastIn (get_or buckets place 0) (buckets ++ bucket ∷ []) place) (sym (get_or_append_left before (get_or last bucket 0 ∷ []) 0 place (omega arith)))
        (stays_last (get_or buckets place 0) buckets (bucket ∷ []) place (get_or before place 0) (omega arith) (is.before_each place lower)))
    | inr not ↦
        let same = is.as_long in
        let behind : length buckets ≡ place = omega (arith, length-append buckets (bucket ∷ [])) in
        subst (λ i. IsLastIn (get_or (buckets ++ bucket ∷ []) i 0) (buckets ++ bucket ∷ []) i (get_or (before ++ get_or last bucket 0 ∷ []) i 0)) behind
        (subst (λ b. IsLastIn b (buckets ++ bucket ∷ []) (length buckets) (get_or (before ++ get_or last bucket 0 ∷ []) (length buckets) 0)) (sym (get_or-append_seam buckets bucket [] 0))
        (subst (IsLastIn bucket (buckets ++ bucket ∷ []) (length buckets))
        (sym (subst (λ i. get_or (before ++ get_or last bucket 0 ∷ []) i 0 ≡ get_or last bucket 0) same (get_or-append_seam before (get_or last bucket 0) [] 0)))
        (stays_last bucket buckets (bucket ∷ []) (length buckets) (get_or last bucket 0) (omega arith) (is.of_each bucket within))))
  ];
}

-- as where a range is noted
pub noted : (last before more : List ℕ) (bucket value place : ℕ) (ranges : List KeyRange) (range : KeyRange) → bucket < length last → place ≡ length before + 1 → value ≡ get_or last bucket 0 →
    more ≡ before ++ value ∷ [] → bucket ≡ bucket_of (length last) range → IsChained last before (map (bucket_of (length last)) ranges) →
    IsChained (set last bucket place) more (map (bucket_of (length (set last bucket place))) (ranges ++ range ∷ []))
noted last before more bucket value place ranges range within place_is value_is more_is bucket_is known =
    let old = map (bucket_of (length last)) ranges in
    let new : map (bucket_of (length (set last bucket place))) (ranges ++ range ∷ []) ≡ old ++ bucket ∷ [] =
    ap (λ n. map (bucket_of n) (ranges ++ range ∷ [])) (length-set last bucket place) ∙ map-append (bucket_of (length last)) ranges (range ∷ []) ∙ ap (λ b. old ++ b ∷ []) (sym bucket_is) in
    subst (IsChained (set last bucket place) more) (sym new)
    (subst (λ xs. IsChained (set last bucket place) xs (old ++ bucket ∷ [])) (sym (more_is ∙ ap (λ v. before ++ v ∷ []) value_is))
    (subst (λ p. IsChained (set last bucket p) (before ++ get_or last bucket 0 ∷ []) (old ++ bucket ∷ [])) (sym place_is) (chained_more last before old bucket within known)))

-- what is known of an equal list
pub has_index_at : (index : RangeIndex) (rs ss : List KeyRange) → ss ≡ rs → HasIndex index rs → HasIndex index ss
has_index_at index rs ss e = subst (HasIndex index) (sym e)

-- nothing is known of no items
pub chained_none : (last before : List ℕ) → ((bucket : ℕ) → bucket < length last → get_or last bucket 0 ≡ 0) → before ≡ [] → IsChained last before []
chained_none last before none empty = record {
  as_long = ap length empty;
  of_each = λ bucket within. let is = none bucket within in record { within = omega arith; is_of = λ some. absurd (no_place (get_or last bucket 0) is some); is_last = λ place early same. absurd (none_before place early) };
  before_each = λ place early. absurd (none_before place early);
}
  where
    none_before : (place : ℕ) → place < 0 → ⊥
    none_before place early = omega arith

    no_place : (n : ℕ) → n ≡ 0 → 0 < n → ⊥
    no_place n is some = omega arith

-- ---- looking for a range

-- a range, if the list has it, stands before a place; and the item before that is of its bucket
pub record IsLeft (range : KeyRange) (ranges : List KeyRange) (buckets : List ℕ) (bucket place : ℕ) : Type 0 where
  pub within : place ≤ length ranges
  pub is_of : 0 < place → get_or buckets (place - 1) 0 ≡ bucket
  pub before : (i : ℕ) (d : KeyRange) → i < length ranges → is_same_range range (get_or ranges i d) ≡ true → i < place

module _ (count : ℕ) (range : KeyRange) (ranges : List KeyRange) where
  abbrev pub buckets : List ℕ
  buckets = map (bucket_of count) ranges

  -- the same range is in the same bucket
  same_bucket : (i : ℕ) (d : KeyRange) → i < length ranges → is_same_range range (get_or ranges i d) ≡ true → get_or buckets i 0 ≡ bucket_of count range
  same_bucket i d within same = get_or-map (bucket_of count) ranges i d 0 within ∙ sym (ap (bucket_of count) (is_same_range-equal range (get_or ranges i d) same))

  -- it is looked for at first before the place of the last one of its bucket
  pub left_first : (place : ℕ) → IsLastIn (bucket_of count range) buckets (length buckets) place → IsLeft range ranges buckets (bucket_of count range) place
  left_first place is = record {
    within = let within = is.within in omega (arith, length-map ranges (bucket_of count));
    is_of = is.is_of;
    before = λ i d within same. is.is_last i (omega (arith, length-map ranges (bucket_of count))) (same_bucket i d within same);
  }

  -- and then before that of the one before it
  pub left_next : (place next : ℕ) (own : KeyRange) → 0 < place → IsLeft range ranges buckets (bucket_of count range) place →
      IsLastIn (get_or buckets (place - 1) 0) buckets (place - 1) next → own ≡ get_or ranges (place - 1) own → is_same_range range own ≡ false →
      IsLeft range ranges buckets (bucket_of count range) next
  left_next place next own some left is here differs = record {
    within = let low = is.within in let within = left.within in omega arith;
    is_of = λ more. is.is_of more ∙ left.is_of some;
    before = λ i d within same. elim (cases_eq i (place - 1)) [
      | inl e ↦
          absurd (false≢true (sym differs ∙ ap (is_same_range range) (here ∙ get_or_default ranges (place - 1) own d (let low = left.within in omega arith)) ∙ subst (λ j. is_same_range range (get_or ranges j d) ≡ true) e same))
      | inr apart ↦ let low = left.before i d within same in is.is_last i (omega arith) (same_bucket i d within same ∙ sym (left.is_of some))
    ];
  }

  -- so where no place is left the list hasn't the range
  pub left_none : (place : ℕ) → place ≤ 0 → IsLeft range ranges buckets (bucket_of count range) place → list_any (is_same_range range) ranges ≡ false
  left_none place none left =
      list_any_none (is_same_range range) ranges (λ i d within. false_from_ne_true (is_same_range range (get_or ranges i d)) (λ same. past i (left.before i d within same)))
    where
      past : (i : ℕ) → i < place → ⊥
      past i before = omega arith
