-- The records at built positions where one record gives way to another, and what is written for write-only indexes.
use Rattle.std.proofs.Common.{◌≡◌, inl, inr, ℕ, Bool, true, false, not, cond, List, [], ◌∷◌, Option, Some, None, refl, sym, ap, subst, ◌∙◌, IsTrue}
use Rattle.std.specs.List.{AllByRecursion}
use Rattle.std.specs.Ordering.{is_eq, is_lt}
use Rattle.std.specs.declared.cmp.Ordering.{Ordering}
use Rattle.std.specs.declared.cmp.Ordering.TheVariants.{Less, Equal, Greater}
use Rattle.std.proofs.lemmas.Bool.{cases_Bool, true≢false}
use Rattle.tuple_codec.specs.Item.{Item}
use Rattle.tuple_codec.specs.Order.{tuple_cmp}
use Rattle.kv_core.specs.Map.{Map, after_all}
use Rattle.kv_core.specs.Range.{KeyRange}
use Rattle.metadata.specs.declared.index.IndexDefinition.{IndexDefinition}
use Rattle.metadata.specs.Record.{Record, primary_key}
use Rattle.metadata.specs.Records.{AreOrdered, IsStorable, has_primary_key, placed, record_at, with_record, without_record}
use Rattle.range_set.specs.Gaps.{has_position}
use Rattle.index_maint.specs.Built.{built_records, position, position_of}
use Rattle.index_maint.specs.Laws.{Follows, IgnoresOthers, IsIndexed, IsOther, IsReplacement, Keeping, Writing, replaced}
use Rattle.index_maint.proofs.RecordLists.{all_behind, all_filter, ordered-filter}
use Rattle.index_maint.proofs.Replaced.{tied_tuples}

-- the position of a record with a primary key is the key's
same_position : (ranges : List KeyRange) (key : List Item) (r : Record) → has_primary_key key r ≡ true → has_position ranges (position r) ≡ has_position ranges (position_of key)
same_position ranges key r has = ap (λ k. has_position ranges (position_of k)) (tied_tuples (primary_key r) key has)

module _ (ranges : List KeyRange) where
  -- ---- where the position is built

  -- FOUND: the record is found among those at built positions
  pub built_found : (key : List Item) (records : List Record) → has_position ranges (position_of key) ≡ true → record_at key (built_records ranges records) ≡ record_at key records
  built_found key [] covered = refl
  built_found key (r ∷ records) covered = by_tests (has_primary_key key r) (has_position ranges (position r)) refl refl (built_found key records covered)
    where
      by_tests : (h b : Bool) → has_primary_key key r ≡ h → has_position ranges (position r) ≡ b → record_at key (built_records ranges records) ≡ record_at key records →
          record_at key (cond b (r ∷ built_records ranges records) (built_records ranges records)) ≡ cond h (Some r) (record_at key records)
      by_tests true true has is rest = ap (λ h. cond h (Some r) (record_at key (built_records ranges records))) has
      by_tests true false has is rest = absurd (true≢false (sym covered ∙ sym (same_position ranges key r has) ∙ is))
      by_tests false true has is rest = ap (λ h. cond h (Some r) (record_at key (built_records ranges records))) has ∙ rest
      by_tests false false has is rest = rest

  -- to take out and to keep those at built positions can be done in either order
  pub built_without : (key : List Item) (records : List Record) → built_records ranges (without_record key records) ≡ without_record key (built_records ranges records)
  built_without key [] = refl
  built_without key (r ∷ records) = by_tests (has_primary_key key r) (has_position ranges (position r)) refl refl (built_without key records)
    where
      by_tests : (h b : Bool) → has_primary_key key r ≡ h → has_position ranges (position r) ≡ b → built_records ranges (without_record key records) ≡ without_record key (built_records ranges records) →
          built_records ranges (cond (not h) (r ∷ without_record key records) (without_record key records)) ≡ without_record key (cond b (r ∷ built_records ranges records) (built_records ranges records))
      by_tests true true has is rest = rest ∙ sym (ap (λ h. cond (not h) (r ∷ without_record key (built_records ranges records)) (without_record key (built_records ranges records))) has)
      by_tests true false has is rest = rest
      by_tests false true has is rest =
          ap (λ b. cond b (r ∷ built_records ranges (without_record key records)) (built_records ranges (without_record key records))) is
          ∙ ap (λ rs. r ∷ rs) rest
          ∙ sym (ap (λ h. cond (not h) (r ∷ without_record key (built_records ranges records)) (without_record key (built_records ranges records))) has)
      by_tests false false has is rest = ap (λ b. cond b (r ∷ built_records ranges (without_record key records)) (built_records ranges (without_record key records))) is ∙ rest

  -- a record before all others is put in front
  put_in_front : (new : Record) (records : List Record) → AllByRecursion (λ later. IsTrue (is_lt (tuple_cmp (primary_key new) (primary_key later)))) records → with_record new records ≡ new ∷ records
  put_in_front new [] all = refl
  put_in_front new (r ∷ records) all = by_order (tuple_cmp (primary_key new) (primary_key r)) all.0
    where
      by_order : (o : Ordering) → is_lt o ≡ true → placed o (new ∷ r ∷ records) (new ∷ records) (r ∷ with_record new records) ≡ new ∷ r ∷ records
      by_order Less h = refl
      by_order Equal h = cc
      by_order Greater h = cc

  -- so can it be to put a record at a built position
  pub built_with : (new : Record) (records : List Record) → IsStorable new → AreOrdered records → AllByRecursion IsStorable records → has_position ranges (position new) ≡ true →
      built_records ranges (with_record new records) ≡ with_record new (built_records ranges records)
  built_with new [] n ordered storable covered = ap (λ b. cond b (new ∷ []) []) covered
  built_with new (r ∷ records) n ordered storable covered =
      by_tests (tuple_cmp (primary_key new) (primary_key r)) (has_position ranges (position r)) refl refl (built_with new records n ordered.1 storable.1 covered)
    where
      kept_new : (rs : List Record) → cond (has_position ranges (position new)) (new ∷ rs) rs ≡ new ∷ rs
      kept_new rs = ap (λ b. cond b (new ∷ rs) rs) covered

      by_tests : (o : Ordering) (b : Bool) → tuple_cmp (primary_key new) (primary_key r) ≡ o → has_position ranges (position r) ≡ b →
          built_records ranges (with_record new records) ≡ with_record new (built_records ranges records) →
          built_records ranges (placed o (new ∷ r ∷ records) (new ∷ records) (r ∷ with_record new records)) ≡ with_record new (cond b (r ∷ built_records ranges records) (built_records ranges records))
      by_tests Less true order is rest =
          kept_new (built_records ranges (r ∷ records)) ∙ ap (λ b. new ∷ cond b (r ∷ built_records ranges records) (built_records ranges records)) is
          ∙ sym (ap (λ o. placed o (new ∷ r ∷ built_records ranges records) (new ∷ built_records ranges records) (r ∷ with_record new (built_records ranges records))) order)
      by_tests Less false order is rest =
          kept_new (built_records ranges (r ∷ records)) ∙ ap (λ b. new ∷ cond b (r ∷ built_records ranges records) (built_records ranges records)) is
          ∙ sym (put_in_front new (built_records ranges records)
          (all_filter (λ later. IsTrue (is_lt (tuple_cmp (primary_key new) (primary_key later)))) (λ s. has_position ranges (position s)) records
          (all_behind new r records n storable.0 storable.1 (ap is_lt order) ordered.0)))
      by_tests Equal true order is rest =
          kept_new (built_records ranges records)
          ∙ sym (ap (λ o. placed o (new ∷ r ∷ built_records ranges records) (new ∷ built_records ranges records) (r ∷ with_record new (built_records ranges records))) order)
      by_tests Equal false order is rest =
          absurd (true≢false (sym covered ∙ ap (λ k. has_position ranges (position_of k)) (tied_tuples (primary_key new) (primary_key r) (ap is_eq order)) ∙ is))
      by_tests Greater true order is rest =
          ap (λ b. cond b (r ∷ built_records ranges (with_record new records)) (built_records ranges (with_record new records))) is ∙ ap (λ rs. r ∷ rs) rest
          ∙ sym (ap (λ o. placed o (new ∷ r ∷ built_records ranges records) (new ∷ built_records ranges records) (r ∷ with_record new (built_records ranges records))) order)
      by_tests Greater false order is rest = ap (λ b. cond b (r ∷ built_records ranges (with_record new records)) (built_records ranges (with_record new records))) is ∙ rest

  -- ---- where it isn't

  -- OUT: those at built positions stay where a record elsewhere gives way to another
  pub out_without : (key : List Item) (records : List Record) → has_position ranges (position_of key) ≡ false → built_records ranges (without_record key records) ≡ built_records ranges records
  out_without key [] bare = refl
  out_without key (r ∷ records) bare = by_test (has_primary_key key r) refl (out_without key records bare)
    where
      by_test : (h : Bool) → has_primary_key key r ≡ h → built_records ranges (without_record key records) ≡ built_records ranges records →
          built_records ranges (cond (not h) (r ∷ without_record key records) (without_record key records)) ≡ built_records ranges (r ∷ records)
      by_test true has rest = rest ∙ sym (ap (λ b. cond b (r ∷ built_records ranges records) (built_records ranges records)) (same_position ranges key r has ∙ bare))
      by_test false has rest = ap (λ rs. cond (has_position ranges (position r)) (r ∷ rs) rs) rest

  out_with : (new : Record) (records : List Record) → has_position ranges (position new) ≡ false → built_records ranges (with_record new records) ≡ built_records ranges records
  out_with new [] bare = ap (λ b. cond b (new ∷ []) []) bare
  out_with new (r ∷ records) bare = by_order (tuple_cmp (primary_key new) (primary_key r)) refl (out_with new records bare)
    where
      left_new : (rs : List Record) → cond (has_position ranges (position new)) (new ∷ rs) rs ≡ rs
      left_new rs = ap (λ b. cond b (new ∷ rs) rs) bare

      by_order : (o : Ordering) → tuple_cmp (primary_key new) (primary_key r) ≡ o → built_records ranges (with_record new records) ≡ built_records ranges records →
          built_records ranges (placed o (new ∷ r ∷ records) (new ∷ records) (r ∷ with_record new records)) ≡ built_records ranges (r ∷ records)
      by_order Less order rest = left_new (built_records ranges (r ∷ records))
      by_order Equal order rest =
          left_new (built_records ranges records)
          ∙ sym (ap (λ b. cond b (r ∷ built_records ranges records) (built_records ranges records))
          (ap (λ k. has_position ranges (position_of k)) (sym (tied_tuples (primary_key new) (primary_key r) (ap is_eq order))) ∙ bare))
      by_order Greater order rest = ap (λ rs. cond (has_position ranges (position r)) (r ∷ rs) rs) rest

  -- ---- replacements

  -- IN: at a built position the replacement is one among the records at built positions
  pub built_replacement : (key : List Item) (old new : Option Record) (records : List Record) → IsReplacement key old new records → has_position ranges (position_of key) ≡ true → IsReplacement key old new (built_records ranges records)
  built_replacement key old new records given covered = record {
    ordered = ordered-filter (λ r. has_position ranges (position r)) records given.ordered;
    storable = all_filter IsStorable (λ r. has_position ranges (position r)) records given.storable;
    tuple = given.tuple;
    found = given.found ∙ sym (built_found key records covered);
    newer = given.newer;
  }

  pub built_replaced : (key : List Item) (old new : Option Record) (records : List Record) → IsReplacement key old new records → has_position ranges (position_of key) ≡ true →
      built_records ranges (replaced key new records) ≡ replaced key new (built_records ranges records)
  built_replaced key old None records given covered = built_without key records
  built_replaced key old (Some new) records given covered =
      built_with new records given.newer.0 given.ordered given.storable (ap (λ k. has_position ranges (position_of k)) given.newer.1 ∙ covered)

  pub out_replaced : (key : List Item) (old new : Option Record) (records : List Record) → IsReplacement key old new records → has_position ranges (position_of key) ≡ false →
      built_records ranges (replaced key new records) ≡ built_records ranges records
  out_replaced key old None records given bare = out_without key records bare
  out_replaced key old (Some new) records given bare = out_with new records (ap (λ k. has_position ranges (position_of k)) given.newer.1 ∙ bare)

  -- FOLLOWS: what is had of the records at built positions is had after a writer wrote the changes exactly where its position is built
  pub built_follows : (Has : Keeping) (writes : Writing) → Follows Has writes →
      (prefix : List ℕ) (index : IndexDefinition) (key : List Item) (old new : Option Record) (records : List Record) (m : Map) →
      IsReplacement key old new records → IsIndexed index old → IsIndexed index new → Has prefix index (built_records ranges records) m →
      Has prefix index (built_records ranges (replaced key new records)) (after_all (cond (has_position ranges (position_of key)) (writes prefix index old new) []) m)
  built_follows Has writes law prefix index key old new records m given before after has = elim (cases_Bool (has_position ranges (position_of key))) [
    | inl covered ↦
        subst (λ b. Has prefix index (built_records ranges (replaced key new records)) (after_all (cond b (writes prefix index old new) []) m)) (sym covered)
        (subst (λ rs. Has prefix index rs (after_all (writes prefix index old new) m)) (sym (built_replaced key old new records given covered))
        (law prefix index key old new (built_records ranges records) m (built_replacement key old new records given covered) before after has))
    | inr bare ↦
        subst (λ b. Has prefix index (built_records ranges (replaced key new records)) (after_all (cond b (writes prefix index old new) []) m)) (sym bare)
        (subst (λ rs. Has prefix index rs m) (sym (out_replaced key old new records given bare)) has)
  ]

  pub built_ignores_others : (Has : Keeping) → IgnoresOthers Has →
      (prefix : List ℕ) (index : IndexDefinition) (key : List Item) (old new : Option Record) (records : List Record) (m : Map) →
      IsReplacement key old new records → IsOther index old → IsOther index new → Has prefix index (built_records ranges records) m →
      Has prefix index (built_records ranges (replaced key new records)) m
  built_ignores_others Has law prefix index key old new records m given before after has = elim (cases_Bool (has_position ranges (position_of key))) [
    | inl covered ↦
        subst (λ rs. Has prefix index rs m) (sym (built_replaced key old new records given covered))
        (law prefix index key old new (built_records ranges records) m (built_replacement key old new records given covered) before after has)
    | inr bare ↦ subst (λ rs. Has prefix index rs m) (sym (out_replaced key old new records given bare)) has
  ]
