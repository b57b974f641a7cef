-- The part of a gap up to behind so many records has just the first records of the gap.
use Rattle.std.proofs.Common.{◌≡◌, ℕ, zero, suc, arith, Bool, true, false, not, cond, ◌&&◌, ◌==◌, List, [], ◌∷◌, ◌++◌, take, pos, refl, sym, ap, ◌∙◌, IsTrue}
use Rattle.std.proofs.lemmas.Bool.{and_from, and_parts, eqb-true}
use Rattle.std.specs.List.{AllByRecursion, filter}
use Rattle.std.specs.Ordering.{is_lt}
use Rattle.tuple_codec.specs.Order.{tuple_cmp}
use Rattle.tuple_codec.specs.Spelling.{int_spelling}
use Rattle.tuple_codec.proofs.Prefixes.{cmp_behind}
use Rattle.kv_core.specs.Bytes.{key_cmp, key_le, key_lt, next_key}
use Rattle.kv_core.specs.Range.{KeyRange, contains}
use Rattle.kv_core.proofs.Order.{le_from_lt, le_lt_trans, le_refl, less_self, lt_le_trans}
use Rattle.kv_core.proofs.Pairs.{next_least}
use Rattle.metadata.specs.declared.index.IndexDefinition.{IndexDefinition}
use Rattle.metadata.specs.Record.{Record, primary_key}
use Rattle.metadata.specs.Records.{AreOrdered, IsStorable, of_type}
use Rattle.index_maint.specs.Built.{position}
use Rattle.index_maint.specs.Kept.{records_within}
use Rattle.index_maint.specs.Parts.{FirstParts, end_behind, first_part}
use Rattle.index_maint.proofs.RecordLists.{all_filter, id, id_order}

-- ---- records in the order of their positions

abbrev BehindOf : Record → List Record → Type 0
BehindOf r records = AllByRecursion (λ later. key_lt (position r) (position later) ≡ true) records

abbrev Rise : List Record → Type 0
Rise [] = Unit {0}
Rise (r ∷ records) = BehindOf r records × Rise records

abbrev UpTo : List ℕ → List Record → Type 0
UpTo end records = AllByRecursion (λ r. key_lt (position r) end ≡ true) records

-- the order of positions of one type is that of primary keys
position_order : (r s : Record) → IsStorable r → IsStorable s → r.definition.number ≡ s.definition.number → key_cmp (position r) (position s) ≡ tuple_cmp (primary_key r) (primary_key s)
position_order r s can could same =
    sym (cmp_behind (int_spelling (pos r.definition.number)) (position r) (position s))
    ∙ ap (λ n. key_cmp (id r) (int_spelling (pos n) ++ position s)) same ∙ id_order r s can could

-- the records of a type rise
types_rise : (number : ℕ) (records : List Record) → AreOrdered records → AllByRecursion IsStorable records → Rise (of_type number records)
types_rise number [] ordered storable = tt
types_rise number (r ∷ records) ordered storable = by_test (r.definition.number == number) refl (types_rise number records ordered.1 storable.1)
  where
    behind : (left : List Record) → r.definition.number ≡ number → AllByRecursion IsStorable left → AllByRecursion (λ later. IsTrue (is_lt (tuple_cmp (primary_key r) (primary_key later)))) left →
        BehindOf r (of_type number left)
    behind [] is can all = tt
    behind (s ∷ left) is can all = by_type (s.definition.number == number) refl (behind left is can.1 all.1)
      where
        by_type : (b : Bool) → (s.definition.number == number) ≡ b → BehindOf r (of_type number left) → BehindOf r (cond b (s ∷ of_type number left) (of_type number left))
        by_type true same rest = (ap is_lt (position_order r s storable.0 can.0 (is ∙ sym (eqb-true s.definition.number number same))) ∙ all.0, rest)
        by_type false same rest = rest

    by_test : (b : Bool) → (r.definition.number == number) ≡ b → Rise (of_type number records) → Rise (cond b (r ∷ of_type number records) (of_type number records))
    by_test true is rest = (behind records (eqb-true r.definition.number number is) storable.1 ordered.0, rest)
    by_test false is rest = rest

-- so do those that a test keeps
rise_filter : (p : Record → Bool) (records : List Record) → Rise records → Rise (filter p records)
rise_filter p [] rise = tt
rise_filter p (r ∷ records) rise = by_test (p r) (rise_filter p records rise.1)
  where
    by_test : (b : Bool) → Rise (filter p records) → Rise (cond b (r ∷ filter p records) (filter p records))
    by_test true rest = (all_filter (λ later. key_lt (position r) (position later) ≡ true) p records rise.0, rest)
    by_test false rest = rest

-- ---- the end of the part

-- it lies behind each position that is before all records and the end
behind_end : (at : List ℕ) (limit : ℕ) (records : List Record) (end : List ℕ) → AllByRecursion (λ r. key_le at (position r) ≡ true) records → key_lt at end ≡ true → key_lt at (end_behind limit records end) ≡ true
behind_end at zero records end low less = less
behind_end at (suc count) [] end low less = less
behind_end at (suc zero) (r ∷ records) end low less = le_lt_trans at (position r) (next_key (position r)) low.0 (less_self (position r))
behind_end at (suc (suc count)) (r ∷ records) end low less = behind_end at (suc count) records end low.1 less

-- and at the end or before it
end_upto : (limit : ℕ) (records : List Record) (end : List ℕ) → UpTo end records → key_le (end_behind limit records end) end ≡ true
end_upto zero records end all = le_refl end
end_upto (suc count) [] end all = le_refl end
end_upto (suc zero) (r ∷ records) end all = ap not (next_least (position r) end all.0)
end_upto (suc (suc count)) (r ∷ records) end all = end_upto (suc count) records end all.1

-- FIRST: before it lie just the first records
first_before : (count : ℕ) (records : List Record) (end : List ℕ) → Rise records → UpTo end records →
    filter (λ r. key_lt (position r) (end_behind (suc count) records end)) records ≡ take (suc count) records
first_before count [] end rise all = refl
first_before zero (r ∷ records) end rise all =
    ap (λ b. cond b (r ∷ none) none) (less_self (position r)) ∙ ap (λ rs. r ∷ rs) (none_left records rise.0)
  where
    none : List Record
    none = filter (λ s. key_lt (position s) (next_key (position r))) records

    none_left : (left : List Record) → BehindOf r left → filter (λ s. key_lt (position s) (next_key (position r))) left ≡ []
    none_left [] behind = refl
    none_left (s ∷ left) behind =
        ap (λ b. cond b (s ∷ filter (λ t. key_lt (position t) (next_key (position r))) left) (filter (λ t. key_lt (position t) (next_key (position r))) left)) (next_least (position r) (position s) behind.0)
        ∙ none_left left behind.1
first_before (suc count) (r ∷ records) end rise all =
    let last = end_behind (suc count) records end in
    ap (λ b. cond b (r ∷ filter (λ s. key_lt (position s) last) records) (filter (λ s. key_lt (position s) last) records))
    (behind_end (position r) (suc count) records end (all_le records rise.0) all.0)
    ∙ ap (λ rs. r ∷ rs) (first_before count records end rise.1 all.1)
  where
    all_le : (left : List Record) → BehindOf r left → AllByRecursion (λ s. key_le (position r) (position s) ≡ true) left
    all_le [] behind = tt
    all_le (s ∷ left) behind = (le_from_lt (position r) (position s) behind.0, all_le left behind.1)

-- ---- the part

-- a test on top of another one keeps what both keep
filter_twice : (p q both : Record → Bool) → ((r : Record) → both r ≡ (p r && q r)) → (records : List Record) → filter both records ≡ filter q (filter p records)
filter_twice p q both same [] = refl
filter_twice p q both same (r ∷ records) = ap (λ b. cond b (r ∷ filter both records) (filter both records)) (same r) ∙ by_test (p r) (filter_twice p q both same records)
  where
    by_test : (b : Bool) → filter both records ≡ filter q (filter p records) → cond (b && q r) (r ∷ filter both records) (filter both records) ≡ filter q (cond b (r ∷ filter p records) (filter p records))
    by_test true rest = ap (λ rs. cond (q r) (r ∷ rs) rs) rest
    by_test false rest = rest

module _ (limit : ℕ) (gap : KeyRange) (index : IndexDefinition) (records : List Record) where
  abbrev within : List Record
  within = records_within gap index records

  abbrev part : KeyRange
  part = first_part limit gap index records

  within_upto : UpTo gap.end within
  within_upto = each (of_type index.type_number records)
    where
      each : (left : List Record) → UpTo gap.end (filter (λ r. contains gap (position r)) left)
      each [] = tt
      each (r ∷ left) = by_test (contains gap (position r)) refl (each left)
        where
          by_test : (b : Bool) → contains gap (position r) ≡ b → UpTo gap.end (filter (λ s. contains gap (position s)) left) →
              UpTo gap.end (cond b (r ∷ filter (λ s. contains gap (position s)) left) (filter (λ s. contains gap (position s)) left))
          by_test true is rest = ((and_parts (key_le gap.begin (position r)) (key_lt (position r) gap.end) is).1, rest)
          by_test false is rest = rest

  within_from : AllByRecursion (λ r. key_le gap.begin (position r) ≡ true) within
  within_from = each (of_type index.type_number records)
    where
      each : (left : List Record) → AllByRecursion (λ r. key_le gap.begin (position r) ≡ true) (filter (λ r. contains gap (position r)) left)
      each [] = tt
      each (r ∷ left) = by_test (contains gap (position r)) refl (each left)
        where
          by_test : (b : Bool) → contains gap (position r) ≡ b → AllByRecursion (λ s. key_le gap.begin (position s) ≡ true) (filter (λ s. contains gap (position s)) left) →
              AllByRecursion (λ s. key_le gap.begin (position s) ≡ true) (cond b (r ∷ filter (λ s. contains gap (position s)) left) (filter (λ s. contains gap (position s)) left))
          by_test true is rest = ((and_parts (key_le gap.begin (position r)) (key_lt (position r) gap.end) is).0, rest)
          by_test false is rest = rest

  part_upto : key_le part.end gap.end ≡ true
  part_upto = end_upto limit within gap.end within_upto

  part_inside : (at : List ℕ) → contains part at ≡ true → contains gap at ≡ true
  part_inside at is =
      let parts = and_parts (key_le gap.begin at) (key_lt at part.end) is in
      and_from (key_le gap.begin at) (key_lt at gap.end) parts.0 (lt_le_trans at part.end gap.end parts.1 part_upto)

  -- the part contains what the gap contains before the part's end
  both : (r : Record) → contains part (position r) ≡ (contains gap (position r) && key_lt (position r) part.end)
  both r = by_tests (key_le gap.begin (position r)) (key_lt (position r) part.end) (key_lt (position r) gap.end) (λ h. lt_le_trans (position r) part.end gap.end h part_upto)
    where
      by_tests : (low before upto : Bool) → (before ≡ true → upto ≡ true) → (low && before) ≡ ((low && upto) && before)
      by_tests true true upto so = sym (ap (λ b. b && true) (so refl))
      by_tests true false true so = refl
      by_tests true false false so = refl
      by_tests false before upto so = refl

-- FIRST PARTS: the part has just the first records of the gap
pub first_parts : FirstParts
first_parts zero gap index records least ordered storable = absurd (omega (arith, least))
first_parts (suc count) gap index records least ordered storable = record {
  first =
      filter_twice (λ r. contains gap (position r)) (λ r. key_lt (position r) (part (suc count) gap index records).end) (λ r. contains (part (suc count) gap index records) (position r))
      (both (suc count) gap index records) (of_type index.type_number records)
      ∙ first_before count (within (suc count) gap index records) gap.end
      (rise_filter (λ r. contains gap (position r)) (of_type index.type_number records) (types_rise index.type_number records ordered storable)) (within_upto (suc count) gap index records);
  inside = part_inside (suc count) gap index records;
  upto = part_upto (suc count) gap index records;
  some = λ h. behind_end gap.begin (suc count) (within (suc count) gap index records) gap.end (within_from (suc count) gap index records) h;
}
