-- The part of a gap that is made of the records found in it is the one up to behind so many records.
use Rattle.std.proofs.Common.{◌≡◌, ℕ, zero, suc, arith, ◌≤◌, ◌<◌, Bool, true, false, cond, List, [], ◌∷◌, ◌-◌, Some, length, take, refl, sym, ap, ◌∙◌}
use Rattle.std.specs.Prelude.{nat_lt}
use Rattle.std.specs.List.{AllByRecursion, slice_get}
use Rattle.std.proofs.lemmas.Bool.{ltb-false, ltb-true}
use Rattle.kv_core.specs.Bytes.{key_lt, next_key}
use Rattle.kv_core.specs.Range.{KeyRange, has_keys, part_before}
use Rattle.kv_core.proofs.Order.{le_gives}
use Rattle.metadata.specs.declared.index.IndexDefinition.{IndexDefinition}
use Rattle.metadata.specs.Record.{Record}
use Rattle.metadata.specs.Records.{AreOrdered, IsStorable}
use Rattle.index_maint.specs.Built.{position}
use Rattle.index_maint.specs.Kept.{records_within}
use Rattle.index_maint.specs.Parts.{IsFirstPart, end_behind, first_part}
use Rattle.index_maint.proofs.FirstParts.{first_parts}
use Rattle.online_builder.specs.Stepping.{last_position, part_made}

-- where there are fewer records the part ends where the gap does
few_end : (limit : ℕ) (records : List Record) (end : List ℕ) → length (take limit records) < limit → end_behind limit records end ≡ end
few_end zero records end few = absurd (omega (arith, few))
few_end (suc limit) [] end few = refl
few_end (suc zero) (r ∷ records) end few = absurd (omega (arith, few))
few_end (suc (suc limit)) (r ∷ records) end few = few_end (suc limit) records end (omega (arith, few))

-- else behind the last of them
many_end : (count : ℕ) (records : List Record) (first end : List ℕ) → suc count ≤ length (take (suc count) records) → last_position (take (suc count) records) first ≡ end_behind (suc count) records end
many_end count [] first end many = absurd (omega (arith, many))
many_end zero (r ∷ records) first end many = refl
many_end (suc count) (r ∷ records) first end many = many_end count records (next_key (position r)) end (omega (arith, many))

-- what the last record is tells that
pub last_is : (records : List Record) (last : Record) (end : List ℕ) → Some last ≡ slice_get records (length records - 1) → last_position records end ≡ next_key (position last)
last_is [] last end is = absurd (cc)
last_is (r ∷ []) last end is = let same : last ≡ r = cc in ap (λ one. next_key (position one)) (sym same)
last_is (r ∷ s ∷ records) last end is =
    let n : suc (suc (length records)) - 1 ≡ suc (length records) = omega arith in
    let m : suc (length records) - 1 ≡ length records = omega arith in
    last_is (s ∷ records) last (next_key (position r)) (is ∙ ap (slice_get (r ∷ s ∷ records)) n ∙ ap (slice_get (s ∷ records)) (sym m))

-- a part that ends within a gap is the part before its end
within_gap : (gap : KeyRange) (end : List ℕ) → key_lt gap.begin end ≡ true → key_lt gap.end end ≡ false → part_before end gap ≡ record { begin = gap.begin; end = end }
within_gap gap end low high =
    ap (λ b. record { begin = gap.begin; end = cond (key_lt gap.begin (cond b gap.end end)) (cond b gap.end end) gap.begin }) high
    ∙ ap (λ b. record { begin = gap.begin; end = cond b end gap.begin }) low

-- PART: it is the part up to behind so many records
pub part_is : (limit : ℕ) (gap : KeyRange) (index : IndexDefinition) (records rows : List Record) → 1 ≤ limit → AreOrdered records → AllByRecursion IsStorable records → has_keys gap ≡ true →
    rows ≡ take limit (records_within gap index records) → part_made limit rows gap ≡ first_part limit gap index records
part_is zero gap index records rows least ordered storable keys is = absurd (omega (arith, least))
part_is (suc count) gap index records rows least ordered storable keys is = ap (λ rs. part_made (suc count) rs gap) is ∙ by_test (nat_lt (length (take (suc count) within)) (suc count)) refl
  where
    within : List Record
    within = records_within gap index records

    part : KeyRange
    part = first_part (suc count) gap index records

    is_part : IsFirstPart (suc count) gap part index records
    is_part = first_parts (suc count) gap index records least ordered storable

    by_test : (b : Bool) → nat_lt (length (take (suc count) within)) (suc count) ≡ b → cond b gap (part_before (last_position (take (suc count) within) gap.end) gap) ≡ part
    by_test true few = ap (λ end. record { begin = gap.begin; end = end }) (sym (few_end (suc count) within gap.end (ltb-true (length (take (suc count) within)) (suc count) few)))
    by_test false many =
        ap (λ end. part_before end gap) (many_end count within gap.end gap.end (ltb-false (length (take (suc count) within)) (suc count) many))
        ∙ within_gap gap part.end (is_part.some keys) (le_gives part.end gap.end is_part.upto)
