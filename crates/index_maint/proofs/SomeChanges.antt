-- An index is written only where it changes, of whatever kind it is and in whatever state.
use Rattle.std.proofs.Common.{◌≡◌, ℕ, Bool, true, false, cond, ◌&&◌, ◌||◌, List, [], ◌∷◌, ◌++◌, Option, Some, None, refl, sym, ap, subst, ◌∙◌}
use Rattle.std.proofs.lemmas.Bool.{true≢false}
use Rattle.std.specs.FinMap.{get}
use Rattle.std.specs.List.{list_any}
use Rattle.tuple_codec.specs.Item.{Item}
use Rattle.kv_core.specs.Change.{write_ranges}
use Rattle.kv_core.specs.Map.{Map, after_all, value_after_all}
use Rattle.kv_core.specs.Range.{KeyRange, covers}
use Rattle.kv_core.proofs.Changes.{get-after_all-value}
use Rattle.kv_core.proofs.Order.{tied_keys}
use Rattle.range_set.specs.Gaps.{has_position}
use Rattle.metadata.specs.declared.index.IndexDefinition.{IndexDefinition}
use Rattle.metadata.specs.declared.index.IndexKind.{IndexKind}
use Rattle.metadata.specs.declared.index.IndexKind.TheVariants.{Value, Count, Sum}
use Rattle.metadata.specs.declared.index.State.TheVariants.{Readable, WriteOnly, Disabled}
use Rattle.metadata.specs.Record.{Record}
use Rattle.metadata.specs.Records.{without_record}
use Rattle.index_maint.specs.Built.{HasSomeEntries, built_records, position_of}
use Rattle.index_maint.specs.Changes.{clear_entry, entries_map, set_entry, value_changes}
use Rattle.index_maint.specs.Entries.{entry_of, is_indexed, same_entry}
use Rattle.index_maint.specs.Kept.{HasDefined, HasPart, changes_by, part_changes_by}
use Rattle.index_maint.specs.KeptLaws.{KeptOnlyChanges}
use Rattle.index_maint.specs.Layout.{entries_prefix, entry_key}
use Rattle.index_maint.specs.Laws.{IsIndexed, IsReplacement, Keeping, OnlyChanges, Writing}
use Rattle.index_maint.specs.Totals.{HasTotals, count_clears, count_share, sum_clears, sum_share, total_changes}
use Rattle.index_maint.proofs.EntryKeys.{same_key}
use Rattle.index_maint.proofs.OnlyChanges.{at_entry, bytes_of, covered, covered_other, new_alone, or_false, value_only_changes}
use Rattle.index_maint.proofs.Replaced.{found_storable}
use Rattle.index_maint.proofs.SomeEntries.{entries_at, nothing_stands}
use Rattle.index_maint.proofs.TotalChanges.{totals_only_change}
use Rattle.index_maint.proofs.TotalLaw.{count_ones, sum_ones}
use Rattle.index_maint.proofs.ValueLaw.{any_before, cleared, has_entry, holds_of, is_entry_key, there}
use Rattle.index_maint.proofs.WriteOnly.{built_replacement}

-- ---- write-only VALUE

module _ (prefix : List ℕ) (index : IndexDefinition) (ranges : List KeyRange) (records : List Record) (m : Map) (has : HasSomeEntries prefix index ranges records m) where
  -- nothing stands where no record has its entry
  no_entry : (at bytes : List ℕ) → at ≡ entries_prefix prefix index.number ++ bytes → list_any (has_entry prefix index at) records ≡ false → get m at ≡ None
  no_entry at bytes is none = by_value (get m at) refl
    where
      by_value : (value : Option (List ℕ)) → get m at ≡ value → get m at ≡ None
      by_value None e = e
      by_value (Some x) e =
          absurd (nothing_stands x (sym (ap there none) ∙ sym (entries_at prefix index records at)
          ∙ subst (λ k. get (entries_map prefix index records) k ≡ Some x) (sym is) (has.only bytes x (subst (λ k. get m k ≡ Some x) is e))))

  module _ (key : List Item) (at : List ℕ) where
    -- so it is at the new record's entry, where the old one hasn't that
    new_free : (old : Option Record) (new : Record) → IsReplacement key old (Some new) records → is_entry_key prefix index.number at (entry_of index new) ≡ true →
        holds_of (has_entry prefix index at) old ≡ false → get m at ≡ None
    new_free old new given is free =
        no_entry at (bytes_of index new) (at_entry prefix index at new is)
        (any_before (has_entry prefix index at) key old (Some new) records given ∙ ap (λ b. b || list_any (has_entry prefix index at) (without_record key records)) free ∙ new_alone prefix index at key old new records given is)

    -- the old record's entry is taken out
    old_goes : (old : Record) → is_entry_key prefix index.number at (entry_of index old) ≡ true → value_after_all (clear_entry prefix index.number (entry_of index old) ∷ []) at (get m at) ≡ None
    old_goes old is = cleared prefix index.number at (entry_of index old) (get m at) ∙ ap (λ b. cond b None (get m at)) is

    some_only : (old new : Option Record) → IsReplacement key old new records → covers (write_ranges (value_changes prefix index old new)) at ≡ true →
        get (after_all (value_changes prefix index old new) m) at ≡ get m at → get m at ≡ None
    some_only None None given covers_at same = absurd (true≢false (sym covers_at))
    some_only None (Some new) given covers_at same = new_free None new given (covered prefix index.number at None (Some (entry_of index new)) covers_at) refl
    some_only (Some old) None given covers_at same =
        sym same ∙ get-after_all-value (value_changes prefix index (Some old) None) m at
        ∙ old_goes old (sym (or_false (is_entry_key prefix index.number at (entry_of index old))) ∙ covered prefix index.number at (Some (entry_of index old)) None covers_at)
    some_only (Some old) (Some new) given covers_at same =
        by_keys (is_entry_key prefix index.number at (entry_of index old)) (is_entry_key prefix index.number at (entry_of index new)) refl refl
        (covered prefix index.number at (Some (entry_of index old)) (Some (entry_of index new)) covers_at)
      where
        other : same_entry (entry_of index old) (entry_of index new) ≡ false
        other = covered_other prefix index.number at (entry_of index old) (entry_of index new) covers_at

        differ : is_entry_key prefix index.number at (entry_of index old) ≡ true → is_entry_key prefix index.number at (entry_of index new) ≡ true → ⊥
        differ is_old is_new =
            true≢false
            (sym (same_key prefix index.number index old new (found_storable key old records given.storable (sym given.found)).0 given.newer.0
            (sym (tied_keys at (entry_key prefix index.number (entry_of index old)) is_old) ∙ tied_keys at (entry_key prefix index.number (entry_of index new)) is_new)) ∙ other)

        and_false : (a b : Bool) → b ≡ false → (a && b) ≡ false
        and_false true b h = h
        and_false false b h = refl

        by_keys : (o n : Bool) → is_entry_key prefix index.number at (entry_of index old) ≡ o → is_entry_key prefix index.number at (entry_of index new) ≡ n → (o || n) ≡ true → get m at ≡ None
        by_keys true true is_old is_new h = absurd (differ is_old is_new)
        by_keys true false is_old is_new h =
            sym same ∙ get-after_all-value (value_changes prefix index (Some old) (Some new)) m at
            ∙ ap (λ b. value_after_all (cond b [] (clear_entry prefix index.number (entry_of index old) ∷ set_entry prefix index.number (entry_of index new) ∷ [])) at (get m at)) other
            ∙ ap (λ b. cond b (Some []) (value_after_all (clear_entry prefix index.number (entry_of index old) ∷ []) at (get m at))) is_new ∙ old_goes old is_old
        by_keys false true is_old is_new h = new_free (Some old) new given is_new (and_false (is_indexed index old) (is_entry_key prefix index.number at (entry_of index old)) is_old)
        by_keys false false is_old is_new h = absurd (true≢false (sym h))

-- ---- by kind and state

defined_only : (kind : IndexKind) → OnlyChanges (λ p i rs m. HasDefined kind p i rs m) (λ p i o n. changes_by kind p i o n)
defined_only Value = value_only_changes
defined_only Count = totals_only_change count_share count_clears count_ones
defined_only Sum = totals_only_change sum_share sum_clears sum_ones

-- nothing is written where the position isn't built
built_only : (Has : Keeping) (writes : Writing) → OnlyChanges Has writes → (prefix : List ℕ) (index : IndexDefinition) (ranges : List KeyRange) (key : List Item) (old new : Option Record) (records : List Record) (m : Map) (at : List ℕ) →
    IsReplacement key old new records → IsIndexed index old → IsIndexed index new → Has prefix index (built_records ranges records) m →
    covers (write_ranges (cond (has_position ranges (position_of key)) (writes prefix index old new) [])) at ≡ true →
    get (after_all (cond (has_position ranges (position_of key)) (writes prefix index old new) []) m) at ≡ get m at → get m at ≡ None
built_only Has writes law prefix index ranges key old new records m at given a b has = by_test (has_position ranges (position_of key)) refl
  where
    by_test : (t : Bool) → has_position ranges (position_of key) ≡ t → covers (write_ranges (cond t (writes prefix index old new) [])) at ≡ true →
        get (after_all (cond t (writes prefix index old new) []) m) at ≡ get m at → get m at ≡ None
    by_test true is covers_at same = law prefix index key old new (built_records ranges records) m at (built_replacement ranges key old new records given is) a b has covers_at same
    by_test false is covers_at same = absurd (true≢false (sym covers_at))

part_only : (kind : IndexKind) (prefix : List ℕ) (index : IndexDefinition) (ranges : List KeyRange) (key : List Item) (old new : Option Record) (records : List Record) (m : Map) (at : List ℕ) →
    IsReplacement key old new records → IsIndexed index old → IsIndexed index new → HasPart kind prefix index ranges records m →
    covers (write_ranges (part_changes_by kind prefix index (has_position ranges (position_of key)) old new)) at ≡ true →
    get (after_all (part_changes_by kind prefix index (has_position ranges (position_of key)) old new) m) at ≡ get m at → get m at ≡ None
part_only Value prefix index ranges key old new records m at given a b has = some_only prefix index ranges records m has key at old new given
part_only Count prefix index ranges key old new records m at given a b has =
    built_only (λ p i rs n. HasTotals count_share count_clears p i rs n) (λ p i o n. total_changes count_share count_clears p i o n) (totals_only_change count_share count_clears count_ones) prefix index ranges key old new records m at given a b has
part_only Sum prefix index ranges key old new records m at given a b has =
    built_only (λ p i rs n. HasTotals sum_share sum_clears p i rs n) (λ p i o n. total_changes sum_share sum_clears p i o n) (totals_only_change sum_share sum_clears sum_ones) prefix index ranges key old new records m at given a b has

-- LAW: only what changes is written
pub kept_only_changes : KeptOnlyChanges
kept_only_changes Readable prefix index ranges key old new records m at given a b has = defined_only index.kind prefix index key old new records m at given a b has
kept_only_changes WriteOnly prefix index ranges key old new records m at given a b has = part_only index.kind prefix index ranges key old new records m at given a b has
kept_only_changes Disabled prefix index ranges key old new records m at given a b has = λ covers_at same. absurd (true≢false (sym covers_at))
