-- A write-only VALUE index follows its records: it has only their entries, and all those of records at built positions.
use Rattle.std.proofs.Common.{◌≡◌, ℕ, Bool, true, false, not, cond, ◌&&◌, ◌||◌, List, [], ◌∷◌, ◌++◌, Option, Some, None, refl, sym, ap, subst, ◌∙◌}
use Rattle.std.specs.FinMap.{get}
use Rattle.std.specs.List.{list_any}
use Rattle.std.proofs.lemmas.Bool.{true≢false}
use Rattle.tuple_codec.specs.Item.{Item}
use Rattle.kv_core.specs.Map.{Map, after_all, value_after_all}
use Rattle.kv_core.specs.Range.{KeyRange}
use Rattle.kv_core.proofs.Changes.{get-after_all-value}
use Rattle.kv_core.proofs.Stored.{get-stored}
use Rattle.metadata.specs.declared.index.IndexDefinition.{IndexDefinition}
use Rattle.metadata.specs.Record.{Record, primary_key}
use Rattle.metadata.specs.Records.{IsStorable, has_primary_key, record_at, without_record}
use Rattle.range_set.specs.Gaps.{has_position}
use Rattle.index_maint.specs.Built.{HasSomeEntries, built_records, position, position_of}
use Rattle.index_maint.specs.Changes.{clear_entry, entries_map, set_entry, value_changes}
use Rattle.index_maint.specs.Entries.{entry_of, is_indexed, same_entry}
use Rattle.index_maint.specs.Layout.{entries_prefix, entry_pairs}
use Rattle.index_maint.specs.Laws.{IsIndexed, IsReplacement, replaced}
use Rattle.index_maint.proofs.EntryKeys.{same_entry-equal}
use Rattle.index_maint.proofs.RecordLists.{all_filter}
use Rattle.index_maint.proofs.Replaced.{HaveNot, found_storable, none_without, tied_tuples}
use Rattle.index_maint.proofs.ValueLaw.{any_after, any_before, cleared, entries_looked_up, entry_alone, has_entry, holds_of, is_entry_key, there}
use Rattle.index_maint.proofs.WriteOnly.{built_replaced, built_replacement, built_without, out_replaced, out_without}

-- ---- what stands at a key

-- no bytes stand there or nothing: something only where the records have the entry, and where the records at built positions have it
pub record IsBetween (value : Option (List ℕ)) (all built : Bool) : Type 0 where
  pub stands : Bool
  pub is : value ≡ there stands
  pub only : stands ≡ true → all ≡ true
  pub those : built ≡ true → stands ≡ true

pub nothing_stands : (x : List ℕ) → None ≡ Some x → ⊥
nothing_stands x h = cc

pub told : (value : Option (List ℕ)) (all built : Bool) → ((x : List ℕ) → value ≡ Some x → there all ≡ Some x) → ((x : List ℕ) → there built ≡ Some x → value ≡ Some x) → IsBetween value all built
told None all built only those = record { stands = false; is = refl; only = λ h. cc; those = λ h. absurd (nothing_stands [] (those [] (ap there h))) }
told (Some x) true built only those = let one : Some [] ≡ Some x = only x refl in record { stands = true; is = sym one; only = λ h. refl; those = λ h. refl }
told (Some x) false built only those = absurd (nothing_stands x (only x refl))

pub tells_only : (value : Option (List ℕ)) (all built : Bool) → IsBetween value all built → (x : List ℕ) → value ≡ Some x → there all ≡ Some x
tells_only value all built b x is = by_test b.stands refl
  where
    by_test : (s : Bool) → b.stands ≡ s → there all ≡ Some x
    by_test true at = ap there (b.only at ∙ sym at) ∙ sym b.is ∙ is
    by_test false at = absurd (nothing_stands x (sym (b.is ∙ ap there at) ∙ is))

pub tells_those : (value : Option (List ℕ)) (all built : Bool) → IsBetween value all built → (x : List ℕ) → there built ≡ Some x → value ≡ Some x
tells_those value all built b x is = by_test built refl is
  where
    by_test : (s : Bool) → built ≡ s → there s ≡ Some x → value ≡ Some x
    by_test true at h = b.is ∙ ap there (b.those at) ∙ h
    by_test false at h = cc

-- ---- one entry gives way to another

only_after : (old new rest stands : Bool) → (stands ≡ true → (old || rest) ≡ true) → (new || (not old && stands)) ≡ true → (new || rest) ≡ true
only_after old true rest stands only h = refl
only_after true false rest stands only h = cc
only_after false false rest stands only h = only h

those_after : (covered old new rest stands : Bool) → (old ≡ true → rest ≡ false) → (((covered && old) || rest) ≡ true → stands ≡ true) → ((covered && new) || rest) ≡ true → (new || (not old && stands)) ≡ true
those_after covered old true rest stands alone those h = refl
those_after true true false rest stands alone those h = absurd (true≢false (sym h ∙ alone refl))
those_after false true false rest stands alone those h = absurd (true≢false (sym h ∙ alone refl))
those_after true false false rest stands alone those h = those h
those_after false false false rest stands alone those h = those h

-- the records and those at built positions have the entry at a key, before and after
record HaveAt (covered old new rest built_rest all all_after built built_after : Bool) : Type 0 where
  pub all_is : all ≡ (old || rest)
  pub all_after_is : all_after ≡ (new || rest)
  pub built_is : built ≡ ((covered && old) || built_rest)
  pub built_after_is : built_after ≡ ((covered && new) || built_rest)
  pub alone : old ≡ true → built_rest ≡ false

exchanged : (covered old new rest built_rest all all_after built built_after : Bool) (value after : Option (List ℕ)) → HaveAt covered old new rest built_rest all all_after built built_after →
    (b : IsBetween value all built) → after ≡ there (new || (not old && b.stands)) → IsBetween after all_after built_after
exchanged covered old new rest built_rest all all_after built built_after value after at b is = record {
  stands = new || (not old && b.stands);
  is = is;
  only = λ h. at.all_after_is ∙ only_after old new rest b.stands (λ s. sym at.all_is ∙ b.only s) h;
  those = λ h. those_after covered old new built_rest b.stands at.alone (λ s. b.those (at.built_is ∙ s)) (sym at.built_after_is ∙ h);
}

unchanged : (covered old new rest built_rest all all_after built built_after : Bool) (value : Option (List ℕ)) → HaveAt covered old new rest built_rest all all_after built built_after → old ≡ new →
    IsBetween value all built → IsBetween value all_after built_after
unchanged covered old new rest built_rest all all_after built built_after value at same b = record {
  stands = b.stands;
  is = b.is;
  only = λ h. at.all_after_is ∙ ap (λ o. o || rest) (sym same) ∙ sym at.all_is ∙ b.only h;
  those = λ h. b.those (at.built_is ∙ ap (λ o. (covered && o) || built_rest) same ∙ sym at.built_after_is ∙ h);
}

indexed_entry : (prefix : List ℕ) (index : IndexDefinition) (key : List ℕ) (r : Record) → is_indexed index r ≡ true → has_entry prefix index key r ≡ is_entry_key prefix index.number key (entry_of index r)
indexed_entry prefix index key r is = ap (λ b. b && is_entry_key prefix index.number key (entry_of index r)) is

changed_between : (prefix : List ℕ) (index : IndexDefinition) (key : List ℕ) (old new : Option Record) (covered rest built_rest all all_after built built_after : Bool) (value : Option (List ℕ)) →
    IsIndexed index old → IsIndexed index new →
    HaveAt covered (holds_of (has_entry prefix index key) old) (holds_of (has_entry prefix index key) new) rest built_rest all all_after built built_after →
    IsBetween value all built → IsBetween (value_after_all (value_changes prefix index old new) key value) all_after built_after
changed_between prefix index key None None covered rest built_rest all all_after built built_after value a n at b = unchanged covered false false rest built_rest all all_after built built_after value at refl b
changed_between prefix index key None (Some new) covered rest built_rest all all_after built built_after value a n at b =
    exchanged covered false (has_entry prefix index key new) rest built_rest all all_after built built_after value (value_after_all (value_changes prefix index None (Some new)) key value) at b
    (ap (λ v. cond (is_entry_key prefix index.number key (entry_of index new)) (Some []) v) b.is ∙ put (is_entry_key prefix index.number key (entry_of index new)) b.stands
    ∙ ap (λ e. there (e || b.stands)) (sym (indexed_entry prefix index key new n)))
  where
    put : (e s : Bool) → cond e (Some []) (there s) ≡ there (e || s)
    put true s = refl
    put false s = refl
changed_between prefix index key (Some old) None covered rest built_rest all all_after built built_after value a n at b =
    exchanged covered (has_entry prefix index key old) false rest built_rest all all_after built built_after value (value_after_all (value_changes prefix index (Some old) None) key value) at b
    (cleared prefix index.number key (entry_of index old) value ∙ ap (λ v. cond (is_entry_key prefix index.number key (entry_of index old)) None v) b.is
    ∙ taken (is_entry_key prefix index.number key (entry_of index old)) b.stands ∙ ap (λ e. there (not e && b.stands)) (sym (indexed_entry prefix index key old a)))
  where
    taken : (e s : Bool) → cond e None (there s) ≡ there (not e && s)
    taken true s = refl
    taken false s = refl
changed_between prefix index key (Some old) (Some new) covered rest built_rest all all_after built built_after value a n at b = by_same (same_entry (entry_of index old) (entry_of index new)) refl
  where
    put : (e s : Bool) → cond e (Some []) (there s) ≡ there (e || s)
    put true s = refl
    put false s = refl

    taken : (e s : Bool) → cond e None (there s) ≡ there (not e && s)
    taken true s = refl
    taken false s = refl

    by_same : (t : Bool) → same_entry (entry_of index old) (entry_of index new) ≡ t →
        IsBetween (value_after_all (cond t [] (clear_entry prefix index.number (entry_of index old) ∷ set_entry prefix index.number (entry_of index new) ∷ [])) key value) all_after built_after
    by_same true same =
        unchanged covered (has_entry prefix index key old) (has_entry prefix index key new) rest built_rest all all_after built built_after value at
        (indexed_entry prefix index key old a ∙ ap (is_entry_key prefix index.number key) (same_entry-equal (entry_of index old) (entry_of index new) same) ∙ sym (indexed_entry prefix index key new n)) b
    by_same false other =
        exchanged covered (has_entry prefix index key old) (has_entry prefix index key new) rest built_rest all all_after built built_after value
        (value_after_all (clear_entry prefix index.number (entry_of index old) ∷ set_entry prefix index.number (entry_of index new) ∷ []) key value) at b
        (ap (λ v. cond (is_entry_key prefix index.number key (entry_of index new)) (Some []) v)
        (cleared prefix index.number key (entry_of index old) value ∙ ap (λ v. cond (is_entry_key prefix index.number key (entry_of index old)) None v) b.is
        ∙ taken (is_entry_key prefix index.number key (entry_of index old)) b.stands)
        ∙ put (is_entry_key prefix index.number key (entry_of index new)) (not (is_entry_key prefix index.number key (entry_of index old)) && b.stands)
        ∙ (λ i. there (sym (indexed_entry prefix index key new n) i || (not (sym (indexed_entry prefix index key old a) i) && b.stands))))

-- ---- the records

module _ (prefix : List ℕ) (index : IndexDefinition) (ranges : List KeyRange) (key : List Item) (old new : Option Record) (records : List Record) (given : IsReplacement key old new records) (at : List ℕ) (before : IsIndexed index old) where
  built_alone : holds_of (has_entry prefix index at) old ≡ true → list_any (has_entry prefix index at) (without_record key (built_records ranges records)) ≡ false
  built_alone is = by_old old (sym given.found) before is
    where
      by_old : (one : Option Record) → record_at key records ≡ one → IsIndexed index one → holds_of (has_entry prefix index at) one ≡ true → list_any (has_entry prefix index at) (without_record key (built_records ranges records)) ≡ false
      by_old None found of h = cc
      by_old (Some r) found of h =
          let stored = found_storable key r records given.storable found in
          entry_alone prefix index at r (without_record key (built_records ranges records)) stored.0
          (all_filter IsStorable (λ s. not (has_primary_key key s)) (built_records ranges records) (all_filter IsStorable (λ s. has_position ranges (position s)) records given.storable))
          (subst (λ k. HaveNot k (without_record key (built_records ranges records))) (sym (tied_tuples (primary_key r) key stored.1)) (none_without key (built_records ranges records)))
          (sym (indexed_entry prefix index at r of) ∙ h)

  have_before : HaveAt (has_position ranges (position_of key)) (holds_of (has_entry prefix index at) old) (holds_of (has_entry prefix index at) new)
      (list_any (has_entry prefix index at) (without_record key records)) (list_any (has_entry prefix index at) (without_record key (built_records ranges records)))
      (list_any (has_entry prefix index at) records) (list_any (has_entry prefix index at) (replaced key new records))
      (list_any (has_entry prefix index at) (built_records ranges records)) (list_any (has_entry prefix index at) (built_records ranges (replaced key new records)))
  have_before = by_place (has_position ranges (position_of key)) refl
    where
      by_place : (b : Bool) → has_position ranges (position_of key) ≡ b →
          HaveAt b (holds_of (has_entry prefix index at) old) (holds_of (has_entry prefix index at) new)
          (list_any (has_entry prefix index at) (without_record key records)) (list_any (has_entry prefix index at) (without_record key (built_records ranges records)))
          (list_any (has_entry prefix index at) records) (list_any (has_entry prefix index at) (replaced key new records))
          (list_any (has_entry prefix index at) (built_records ranges records)) (list_any (has_entry prefix index at) (built_records ranges (replaced key new records)))
      by_place true covered = record {
        all_is = any_before (has_entry prefix index at) key old new records given;
        all_after_is = any_after (has_entry prefix index at) key old new records given;
        built_is = any_before (has_entry prefix index at) key old new (built_records ranges records) (built_replacement ranges key old new records given covered);
        built_after_is =
            ap (list_any (has_entry prefix index at)) (built_replaced ranges key old new records given covered)
            ∙ any_after (has_entry prefix index at) key old new (built_records ranges records) (built_replacement ranges key old new records given covered);
        alone = built_alone;
      }
      by_place false bare =
          let same : built_records ranges records ≡ without_record key (built_records ranges records) = sym (out_without ranges key records bare) ∙ built_without ranges key records in
          record {
            all_is = any_before (has_entry prefix index at) key old new records given;
            all_after_is = any_after (has_entry prefix index at) key old new records given;
            built_is = ap (list_any (has_entry prefix index at)) same;
            built_after_is = ap (list_any (has_entry prefix index at)) (out_replaced ranges key old new records given bare ∙ same);
            alone = built_alone;
          }

-- what the entries of records have at a key
pub entries_at : (prefix : List ℕ) (index : IndexDefinition) (records : List Record) (key : List ℕ) → get (entries_map prefix index records) key ≡ there (list_any (has_entry prefix index key) records)
entries_at prefix index records key = get-stored (entry_pairs prefix index records) key ∙ entries_looked_up prefix index key records

-- LAW: a write-only VALUE index is had over the records with the new one, once the changes are written
pub some_follow : (prefix : List ℕ) (index : IndexDefinition) (ranges : List KeyRange) (key : List Item) (old new : Option Record) (records : List Record) (m : Map) →
    IsReplacement key old new records → IsIndexed index old → IsIndexed index new →
    HasSomeEntries prefix index ranges records m → HasSomeEntries prefix index ranges (replaced key new records) (after_all (value_changes prefix index old new) m)
some_follow prefix index ranges key old new records m given before after has = record {
  only = λ rest value is.
      let at = entries_prefix prefix index.number ++ rest in
      entries_at prefix index (replaced key new records) at
      ∙ tells_only (value_after_all (value_changes prefix index old new) at (get m at)) (list_any (has_entry prefix index at) (replaced key new records))
      (list_any (has_entry prefix index at) (built_records ranges (replaced key new records))) (stands rest) value (sym (get-after_all-value (value_changes prefix index old new) m at) ∙ is);
  at_built = λ rest value is.
      let at = entries_prefix prefix index.number ++ rest in
      get-after_all-value (value_changes prefix index old new) m at
      ∙ tells_those (value_after_all (value_changes prefix index old new) at (get m at)) (list_any (has_entry prefix index at) (replaced key new records))
      (list_any (has_entry prefix index at) (built_records ranges (replaced key new records))) (stands rest) value (sym (entries_at prefix index (built_records ranges (replaced key new records)) at) ∙ is);
}
  where
    stands : (rest : List ℕ) →
        IsBetween (value_after_all (value_changes prefix index old new) (entries_prefix prefix index.number ++ rest) (get m (entries_prefix prefix index.number ++ rest)))
        (list_any (has_entry prefix index (entries_prefix prefix index.number ++ rest)) (replaced key new records))
        (list_any (has_entry prefix index (entries_prefix prefix index.number ++ rest)) (built_records ranges (replaced key new records)))
    stands rest =
        let at = entries_prefix prefix index.number ++ rest in
        changed_between prefix index at old new (has_position ranges (position_of key)) (list_any (has_entry prefix index at) (without_record key records))
        (list_any (has_entry prefix index at) (without_record key (built_records ranges records)))
        (list_any (has_entry prefix index at) records) (list_any (has_entry prefix index at) (replaced key new records))
        (list_any (has_entry prefix index at) (built_records ranges records)) (list_any (has_entry prefix index at) (built_records ranges (replaced key new records)))
        (get m at) before after
        (have_before prefix index ranges key old new records given at before)
        (told (get m at) (list_any (has_entry prefix index at) records) (list_any (has_entry prefix index at) (built_records ranges records))
        (λ x is. sym (entries_at prefix index records at) ∙ has.only rest x is)
        (λ x is. has.at_built rest x (entries_at prefix index (built_records ranges records) at ∙ is)))
