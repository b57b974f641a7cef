-- A write-only index whose whole set of positions is built has what the records define.
use Rattle.std.proofs.Common.{◌≡◌, ℕ, Bool, true, false, cond, List, [], ◌∷◌, ◌++◌, Option, Some, None, refl, sym, ap, subst, ◌∙◌}
use Rattle.std.specs.Prelude.{is_none}
use Rattle.std.specs.FinMap.{get}
use Rattle.std.specs.List.{AllByRecursion, list_any}
use Rattle.std.specs.Ordering.{is_lt}
use Rattle.tuple_codec.specs.Spelling.{spelling}
use Rattle.tuple_codec.proofs.ByteOrder.{before_escape}
use Rattle.tuple_codec.proofs.TupleOrder.{outer_tail}
use Rattle.kv_core.specs.Bytes.{end_of_keys, key_lt}
use Rattle.kv_core.specs.Map.{Map}
use Rattle.kv_core.specs.Range.{KeyRange}
use Rattle.metadata.specs.declared.index.IndexDefinition.{IndexDefinition}
use Rattle.metadata.specs.declared.index.IndexKind.{IndexKind}
use Rattle.metadata.specs.declared.index.IndexKind.TheVariants.{Value, Count, Sum}
use Rattle.metadata.specs.Cell.{items_of}
use Rattle.metadata.specs.Record.{Record, key_cells}
use Rattle.metadata.specs.Records.{IsStorable}
use Rattle.range_set.specs.Gaps.{IsFirstGap, first_gap, has_position, is_whole}
use Rattle.index_maint.specs.Built.{built_records, position}
use Rattle.index_maint.specs.Kept.{HasDefined, HasPart}
use Rattle.index_maint.specs.Layout.{entries_prefix}
use Rattle.index_maint.specs.Totals.{HasTotals, count_clears, count_share, sum_clears, sum_share}
use Rattle.range_set.proofs.Gaps.{first_gap_is}
use Rattle.index_maint.proofs.SomeEntries.{entries_at, IsBetween, told}
use Rattle.index_maint.proofs.ValueLaw.{has_entry, there}

-- a record's position lies before the end of positions
pub position_low : (r : Record) → IsStorable r → key_lt (position r) end_of_keys ≡ true
position_low r h = ap is_lt (before_escape (spelling (items_of (key_cells r))) [] (outer_tail (items_of (key_cells r)) h.key.items.1))

-- a whole set has every position
pub whole_has : (ranges : List KeyRange) → is_whole ranges ≡ true → (at : List ℕ) → key_lt at end_of_keys ≡ true → has_position ranges at ≡ true
whole_has ranges whole = by_gap (first_gap ranges) (first_gap_is ranges) whole
  where
    by_gap : (gap : Option KeyRange) → IsFirstGap (has_position ranges) gap → is_none gap ≡ true → (at : List ℕ) → key_lt at end_of_keys ≡ true → has_position ranges at ≡ true
    by_gap None is h = is
    by_gap (Some gap) is h = cc

all_built : (ranges : List KeyRange) (records : List Record) → is_whole ranges ≡ true → AllByRecursion IsStorable records → built_records ranges records ≡ records
all_built ranges [] whole storable = refl
all_built ranges (r ∷ records) whole storable =
    ap (λ b. cond b (r ∷ built_records ranges records) (built_records ranges records)) (whole_has ranges whole (position r) (position_low r storable.0))
    ∙ ap (λ rs. r ∷ rs) (all_built ranges records whole storable.1)

-- between all entries and all entries is all of them
all_stand : (value : Option (List ℕ)) (all : Bool) → IsBetween value all all → value ≡ there all
all_stand value all b = b.is ∙ ap there (same b.stands all b.only b.those)
  where
    same : (s t : Bool) → (s ≡ true → t ≡ true) → (t ≡ true → s ≡ true) → s ≡ t
    same true t f g = sym (f refl)
    same false true f g = g refl
    same false false f g = refl

-- READABLE: where the whole set is built a write-only index has what the records define
pub part_whole : (kind : IndexKind) (prefix : List ℕ) (index : IndexDefinition) (ranges : List KeyRange) (records : List Record) (m : Map) → is_whole ranges ≡ true → AllByRecursion IsStorable records →
    HasPart kind prefix index ranges records m → HasDefined kind prefix index records m
part_whole Value prefix index ranges records m whole storable has = λ rest.
    let at = entries_prefix prefix index.number ++ rest in
    let p = has_entry prefix index at in
    all_stand (get m at) (list_any p records)
    (told (get m at) (list_any p records) (list_any p records) (λ x is. sym (entries_at prefix index records at) ∙ has.only rest x is)
    (λ x is. has.at_built rest x (entries_at prefix index (built_records ranges records) at ∙ ap (λ rs. there (list_any p rs)) (all_built ranges records whole storable) ∙ is)))
    ∙ sym (entries_at prefix index records at)
part_whole Count prefix index ranges records m whole storable has = subst (λ rs. HasTotals count_share count_clears prefix index rs m) (all_built ranges records whole storable) has
part_whole Sum prefix index ranges records m whole storable has = subst (λ rs. HasTotals sum_share sum_clears prefix index rs m) (all_built ranges records whole storable) has
