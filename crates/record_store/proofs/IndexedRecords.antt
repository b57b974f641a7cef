-- What a map holds of a store with indexes after a record is put or taken out.
use Rattle.std.proofs.Common.{◌≡◌, ℕ, List, [], ◌∷◌, ◌++◌, Option, refl, sym, subst, Some, None, pos}
use Rattle.std.specs.List.{AllByRecursion}
use Rattle.std.specs.FinMap.{get}
use Rattle.tuple_codec.specs.Item.{Item, IsTuple, int}
use Rattle.kv_core.specs.Map.{Map, after, after_all}
use Rattle.kv_core.specs.Range.{point}
use Rattle.kv_core.specs.declared.change.Mutation.TheVariants.{Set, ClearRange}
use Rattle.metadata.specs.Record.{Record, key_cells, primary_key}
use Rattle.metadata.specs.Records.{IsStorable, record_at}
use Rattle.index_maint.specs.Layout.{entries_prefix}
use Rattle.index_maint.specs.Laws.{IsReplacement, replaced}
use Rattle.index_maint.proofs.KeptLaw.{all_kept, all_kept_leave}
use Rattle.index_maint.proofs.RecordIndexes.{IsTyped, old_typed}
use Rattle.index_maint.proofs.Replaced.{found_none}
use Rattle.index_maint.proofs.Several.{AreApart}
use Rattle.record_store.specs.Store.{Store, built_of, removed, saved, state_of}
use Rattle.record_store.specs.Layout.{record_key, record_value}
use Rattle.record_store.specs.Holds.{Holds, IsNoEntry, IsOfSchema}
use Rattle.record_store.specs.IndexWrites.{index_writes, remove_writes, save_writes}
use Rattle.record_store.proofs.Changed.{removed_by, saved_by}
use Rattle.record_store.proofs.Kept.{HasIndex, clear_leaves, kept_indexes, other_place, set_leaves}
use Rattle.record_store.proofs.Listed.{schema_apart}

module _ (prefix : List ℕ) (store : Store) (number : ℕ) where
  -- LEAVE: a key of no entry is as before
  pub writes_leave : (key : List Item) (old new : Option Record) (m : Map) (at : List ℕ) → IsNoEntry prefix store.schema.indexes at → get (after_all (index_writes prefix store number key old new) m) at ≡ get m at
  writes_leave key old new m at none = all_kept_leave prefix (state_of store) (built_of store) number key old new store.schema.indexes m at none

  -- FOLLOW: all indexes are had of the records with the new one
  pub writes_follow : (key : List Item) (old new : Option Record) → IsReplacement key old new store.records → IsTyped number old → IsTyped number new → (m : Map) → AreApart store.schema.indexes →
      AllByRecursion (λ index. HasIndex prefix store.records m index (store.status index.number)) store.schema.indexes →
      AllByRecursion (λ index. HasIndex prefix (replaced key new store.records) (after_all (index_writes prefix store number key old new) m) index (store.status index.number)) store.schema.indexes
  writes_follow key old new given before later m apart all = all_kept prefix (state_of store) (built_of store) number key old new store.schema.indexes store.records m apart given before later all

module _ (prefix : List ℕ) where
  -- SAVE: with a record put and what its indexes want written, the map holds the store with the record
  pub saved_holds_all : (m : Map) (store : Store) (new : Record) → IsOfSchema store.schema new → IsStorable new → Holds prefix m (Some store) →
      Holds prefix (after_all (save_writes prefix store new) m) (Some (saved store new))
  saved_holds_all m store new typed can holds =
      saved_by prefix m (after_all (index_writes prefix store number (primary_key new) old (Some new)) then) store new typed can holds
      (λ at none. writes_leave prefix store number (primary_key new) old (Some new) then at none)
      (writes_follow prefix store number (primary_key new) old (Some new) given
      (old_typed number (key_cells new) (primary_key new) old (Some new) store.records given refl) refl then (schema_apart store.schema holds.lawful.schema)
      (kept_indexes prefix store.records store.status m then store.schema.indexes
      (λ n bytes. set_leaves m (record_key prefix (primary_key new)) (record_value new.cells) (entries_prefix prefix n ++ bytes)
      (other_place prefix 1 (primary_key new) 2 (int (pos n) ∷ []) (entries_prefix prefix n ++ bytes) refl (bytes, refl))) holds.entries))
    where
      number : ℕ
      number = new.definition.number

      old : Option Record
      old = record_at (primary_key new) store.records

      then : Map
      then = after (Set (record_key prefix (primary_key new)) (record_value new.cells)) m

      given : IsReplacement (primary_key new) old (Some new) store.records
      given = record { ordered = holds.lawful.ordered; storable = holds.lawful.storable; tuple = can.key; found = refl; newer = (can, refl) }

  -- REMOVE: with a record taken out and what its indexes want written, the map holds the store without the record
  pub removed_holds_all : (m : Map) (store : Store) (key : List Item) → IsTuple key → Holds prefix m (Some store) →
      Holds prefix (after_all (remove_writes prefix store key (record_at key store.records)) m) (Some (removed store key))
  removed_holds_all m store key tuple holds = by_record (record_at key store.records) refl
    where
      then : Map
      then = after (ClearRange (point (record_key prefix key))) m

      by_record : (old : Option Record) → record_at key store.records ≡ old → Holds prefix (after_all (remove_writes prefix store key old) m) (Some (removed store key))
      by_record None none = subst (λ rs. Holds prefix m (Some (record store { records = rs }))) (sym (found_none key store.records none)) holds
      by_record (Some old) there =
          let given : IsReplacement key (Some old) None store.records = record { ordered = holds.lawful.ordered; storable = holds.lawful.storable; tuple = tuple; found = sym there; newer = tt } in
          removed_by prefix m (after_all (index_writes prefix store old.definition.number key (Some old) None) then) store key tuple holds
          (λ at none. writes_leave prefix store old.definition.number key (Some old) None then at none)
          (writes_follow prefix store old.definition.number key (Some old) None given refl tt then (schema_apart store.schema holds.lawful.schema)
          (kept_indexes prefix store.records store.status m then store.schema.indexes
          (λ n bytes. clear_leaves m (record_key prefix key) (entries_prefix prefix n ++ bytes)
          (other_place prefix 1 key 2 (int (pos n) ∷ []) (entries_prefix prefix n ++ bytes) refl (bytes, refl))) holds.entries))
