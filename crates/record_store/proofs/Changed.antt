-- What a map holds after a change of a store.
use Rattle.std.proofs.Common.{◌≡◌, ℕ, Bool, true, false, not, ◌&&◌, ◌==◌, cond, List, [], ◌∷◌, ◌++◌, refl, sym, ap, subst, ◌∙◌, Some, None, map, pos}
use Rattle.std.specs.Prelude.{nat_lt}
use Rattle.std.specs.List.{AllByRecursion}
use Rattle.std.specs.Ordering.{is_eq}
use Rattle.std.specs.FinMap.{get}
use Rattle.tuple_codec.specs.Item.{Item, IsTuple, int}
use Rattle.tuple_codec.specs.Spelling.{spelling}
use Rattle.tuple_codec.specs.Subspace.{subspace_key}
use Rattle.kv_core.specs.Bytes.{key_cmp}
use Rattle.kv_core.specs.Map.{Map, after}
use Rattle.kv_core.specs.Range.{point}
use Rattle.kv_core.specs.declared.change.Mutation.{Mutation}
use Rattle.kv_core.specs.declared.change.Mutation.TheVariants.{Set, ClearRange}
use Rattle.kv_core.proofs.Changes.{same-after}
use Rattle.kv_core.proofs.Order.{tied_keys}
use Rattle.kv_core.proofs.Stored.{get-stored, stored}
use Rattle.metadata.specs.declared.index.IndexDefinition.{IndexDefinition}
use Rattle.metadata.specs.Record.{Record, primary_key}
use Rattle.metadata.specs.Records.{AreOrdered, IsStorable, has_primary_key, with_record, without_record}
use Rattle.metadata.specs.Schema.{Schema}
use Rattle.metadata.specs.Lawful.{IsLawfulSchema}
use Rattle.metadata.specs.Written.{schema_bytes}
use Rattle.index_maint.proofs.KeptLaw.{defined_none}
use Rattle.index_maint.proofs.RecordLists.{all_filter, all_with_record, ordered-filter, ordered-with_record}
use Rattle.index_maint.proofs.Replaced.{put_first}
use Rattle.metadata.specs.Stored.{filled}
use Rattle.std.proofs.lemmas.Bool.{true≢false}
use Rattle.std.proofs.lemmas.Cmp.{nat_list_cmp_total, tied_itself}
use Rattle.std.proofs.lemmas.List.Elements.{All-from_recursion, recursion_from_All}
use Rattle.std.proofs.lemmas.List.Sorted.{All-permutation, IsPermutation-sym}
use Rattle.metadata.specs.declared.index.State.TheVariants as declared
use Rattle.record_store.specs.Store.{Readable, Store, created, extended, listed_by, removed, saved, state_of}
use Rattle.record_store.specs.Layout.{built_place, place, record_key, record_value, schema_key, state_pair}
use Rattle.record_store.specs.Holds.{HasPairs, HasPositions, HasRecord, Holds, IsNoEntry, IsNoRange, IsNoRecord, IsOfSchema}
use Rattle.record_store.proofs.Held.{id, tie}
use Rattle.record_store.proofs.Keys.{record_key_is}
use Rattle.record_store.proofs.Filling.{all_filled}
use Rattle.record_store.proofs.Kept.{HasIndex, clear_leaves, clear_there, itself, kept_indexes, kept_ranges, kept_records, lawful_so, no_entry_at, no_entry_in, no_entry_schema, nothing_at, other_place, record_in_place, set_leaves, set_there}

module _ (prefix : List ℕ) where
  -- pairs that go as a change does are had after it
  pub pairs_after : (begin : List ℕ) (old new : List (List ℕ × List ℕ)) (m : Map) (c : Mutation) → stored new ≡ after c (stored old) → HasPairs begin old m → HasPairs begin new (after c m)
  pairs_after begin old new m c is has bytes = same-after c m (stored old) (begin ++ bytes) (has bytes) ∙ ap (λ n. get n (begin ++ bytes)) (sym is)

  -- ---- records by their keys

  -- a record without this primary key hasn't its key
  other_key : (key : List Item) (r : Record) → IsTuple key → IsStorable r → has_primary_key key r ≡ false → id prefix r ≡ record_key prefix key → ⊥
  other_key key r t can other same =
      true≢false (sym (ap (λ k. is_eq (key_cmp (record_key prefix key) k)) same ∙ ap is_eq (tied_itself nat_list_cmp_total (record_key prefix key))) ∙ tie prefix key r t can ∙ other)

  -- one with it has it
  its_key : (key : List Item) (r : Record) → IsTuple key → IsStorable r → has_primary_key key r ≡ true → id prefix r ≡ record_key prefix key
  its_key key r t can has = sym (tied_keys (record_key prefix key) (id prefix r) (tie prefix key r t can ∙ has))

  -- where a map is as another one but for one key, it has the records without that key
  others_had : (m n : Map) (key : List Item) (records : List Record) → IsTuple key → ((bytes : List ℕ) → (place prefix 1 ++ bytes ≡ record_key prefix key → ⊥) → get n (place prefix 1 ++ bytes) ≡ get m (place prefix 1 ++ bytes)) →
      AllByRecursion IsStorable records → AllByRecursion (HasRecord prefix m) records → AllByRecursion (HasRecord prefix n) (without_record key records)
  others_had m n key [] t leaves can each = tt
  others_had m n key (r ∷ records) t leaves can each = by_test (has_primary_key key r) refl (others_had m n key records t leaves can.1 each.1)
    where
      by_test : (b : Bool) → has_primary_key key r ≡ b → AllByRecursion (HasRecord prefix n) (without_record key records) →
          AllByRecursion (HasRecord prefix n) (cond (not b) (r ∷ without_record key records) (without_record key records))
      by_test true is rest = rest
      by_test false is rest =
          let first = each.0 in
          let at = record_key_is prefix (primary_key r) in (
            record {
              stored = first.stored;
              has = subst (λ k. (k ≡ record_key prefix key → ⊥) → get n k ≡ get m k) at (leaves (spelling (primary_key r))) (other_key key r t can.0 is) ∙ first.has;
              fills = first.fills;
            },
            rest,
          )

  -- a key that is none of theirs and not that key is none of the records'
  none_with : (key : List Item) (at : List ℕ) (records : List Record) → IsTuple key → AllByRecursion IsStorable records → (at ≡ record_key prefix key → ⊥) → IsNoRecord prefix (without_record key records) at → IsNoRecord prefix records at
  none_with key at [] t can other none = tt
  none_with key at (r ∷ records) t can other none = by_test (has_primary_key key r) refl none (none_with key at records t can.1 other)
    where
      by_test : (b : Bool) → has_primary_key key r ≡ b → IsNoRecord prefix (cond (not b) (r ∷ without_record key records) (without_record key records)) at →
          (IsNoRecord prefix (without_record key records) at → IsNoRecord prefix records at) → IsNoRecord prefix (r ∷ records) at
      by_test true is none go = ((λ same. other (same ∙ its_key key r t can.0 is)), go none)
      by_test false is none go = (none.0, go none.1)

  -- what holds of a new record and of those without its primary key holds of each once it is put in its place, and so does that no key is theirs
  all_put : (P : Record → Type 0) (new : Record) (records : List Record) → IsStorable new → AreOrdered records → AllByRecursion IsStorable records → P new → AllByRecursion P (without_record (primary_key new) records) → AllByRecursion P (with_record new records)
  all_put P new records can ordered storable one others =
      recursion_from_All P (with_record new records) (All-permutation P (new ∷ without_record (primary_key new) records) (with_record new records) (put_first new records can ordered storable) (All-from_recursion P (new ∷ without_record (primary_key new) records) (one, others)))

  none_put : (P : Record → Type 0) (new : Record) (records : List Record) → IsStorable new → AreOrdered records → AllByRecursion IsStorable records → AllByRecursion P (with_record new records) → P new × AllByRecursion P (without_record (primary_key new) records)
  none_put P new records can ordered storable all =
      recursion_from_All P (new ∷ without_record (primary_key new) records)
      (All-permutation P (with_record new records) (new ∷ without_record (primary_key new) records) (IsPermutation-sym (new ∷ without_record (primary_key new) records) (with_record new records) (put_first new records can ordered storable))
      (All-from_recursion P (with_record new records) all))

  -- ---- a record

  -- SAVE: where a map is as the one with a record's pair put, but for entries, which are those of the store with the record, it holds that store
  pub saved_by : (m n : Map) (store : Store) (new : Record) → IsOfSchema store.schema new → IsStorable new → Holds prefix m (Some store) →
      ((at : List ℕ) → IsNoEntry prefix store.schema.indexes at → get n at ≡ get (after (Set (record_key prefix (primary_key new)) (record_value new.cells)) m) at) →
      AllByRecursion (λ index. HasIndex prefix (with_record new store.records) n index (store.status index.number)) store.schema.indexes → Holds prefix n (Some (saved store new))
  saved_by m n store new typed can holds leaves entries = record {
    lawful = record {
      schema = holds.lawful.schema;
      typed = all_with_record (IsOfSchema store.schema) new store.records typed holds.lawful.typed;
      ordered = ordered-with_record new store.records can holds.lawful.storable holds.lawful.ordered;
      storable = all_with_record IsStorable new store.records can holds.lawful.storable;
    };
    schema =
        leaves (schema_key prefix) (no_entry_schema prefix store.schema.indexes)
        ∙ set_leaves m (id prefix new) (record_value new.cells) (schema_key prefix) (other_place prefix 1 (primary_key new) 0 [] (schema_key prefix) refl (itself (schema_key prefix))) ∙ holds.schema;
    records = record {
      each =
          all_put (HasRecord prefix n) new store.records can holds.lawful.ordered holds.lawful.storable
          (record { stored = new.cells; has = put; fills = filled_itself new typed })
          (others_had m n (primary_key new) store.records can.key other holds.lawful.storable holds.records.each);
      no_others = λ bytes none.
          let at = place prefix 1 ++ bytes in
          let parts = none_put (λ r. at ≡ id prefix r → ⊥) new store.records can holds.lawful.ordered holds.lawful.storable none in
          other bytes parts.0 ∙ holds.records.no_others bytes (none_with (primary_key new) at store.records can.key holds.lawful.storable parts.0 parts.1);
    };
    entries = entries;
    states = λ bytes.
        leaves (place prefix 5 ++ bytes) (no_entry_in prefix 5 store.schema.indexes bytes refl)
        ∙ set_leaves m (id prefix new) (record_value new.cells) (place prefix 5 ++ bytes) (other_place prefix 1 (primary_key new) 5 [] (place prefix 5 ++ bytes) refl (bytes, refl)) ∙ holds.states bytes;
    ranges =
        kept_ranges prefix store.status m n store.schema.indexes
        (λ number bytes.
        let at = built_place prefix number ++ bytes in
        leaves at (no_entry_at prefix 6 (int (pos number) ∷ []) store.schema.indexes at refl (bytes, refl))
        ∙ set_leaves m (id prefix new) (record_value new.cells) at (other_place prefix 1 (primary_key new) 6 (int (pos number) ∷ []) at refl (bytes, refl))) holds.ranges;
    nothing_else = λ at under elsewhere.
        leaves at elsewhere.entries
        ∙ set_leaves m (id prefix new) (record_value new.cells) at (λ same. elsewhere.records (record_in_place prefix (primary_key new) at same)) ∙ holds.nothing_else at under elsewhere;
  }
    where
      other : (bytes : List ℕ) → (place prefix 1 ++ bytes ≡ id prefix new → ⊥) → get n (place prefix 1 ++ bytes) ≡ get m (place prefix 1 ++ bytes)
      other bytes apart = leaves (place prefix 1 ++ bytes) (no_entry_in prefix 1 store.schema.indexes bytes refl) ∙ set_leaves m (id prefix new) (record_value new.cells) (place prefix 1 ++ bytes) apart

      put : get n (id prefix new) ≡ Some (record_value new.cells)
      put =
          leaves (id prefix new) (no_entry_at prefix 1 (primary_key new) store.schema.indexes (id prefix new) refl (itself (id prefix new)))
          ∙ set_there m (id prefix new) (record_value new.cells)

      filled_itself : (r : Record) → IsOfSchema store.schema r → filled r.definition r.cells ≡ Some r.cells
      filled_itself r typed = all_filled store.schema r holds.lawful.schema typed

  -- REMOVE: where a map is as the one with a record's key cleared, but for entries, which are those of the store without the record, it holds that store
  pub removed_by : (m n : Map) (store : Store) (key : List Item) → IsTuple key → Holds prefix m (Some store) →
      ((at : List ℕ) → IsNoEntry prefix store.schema.indexes at → get n at ≡ get (after (ClearRange (point (record_key prefix key))) m) at) →
      AllByRecursion (λ index. HasIndex prefix (without_record key store.records) n index (store.status index.number)) store.schema.indexes → Holds prefix n (Some (removed store key))
  removed_by m n store key t holds leaves entries = record {
    lawful = record {
      schema = holds.lawful.schema;
      typed = all_filter (IsOfSchema store.schema) (λ r. not (has_primary_key key r)) store.records holds.lawful.typed;
      ordered = ordered-filter (λ r. not (has_primary_key key r)) store.records holds.lawful.ordered;
      storable = all_filter IsStorable (λ r. not (has_primary_key key r)) store.records holds.lawful.storable;
    };
    schema =
        leaves (schema_key prefix) (no_entry_schema prefix store.schema.indexes)
        ∙ clear_leaves m (record_key prefix key) (schema_key prefix) (other_place prefix 1 key 0 [] (schema_key prefix) refl (itself (schema_key prefix))) ∙ holds.schema;
    records = record {
      each = others_had m n key store.records t other holds.lawful.storable holds.records.each;
      no_others = λ bytes none. by_key bytes (is_eq (key_cmp (place prefix 1 ++ bytes) (record_key prefix key))) refl none;
    };
    entries = entries;
    states = λ bytes.
        leaves (place prefix 5 ++ bytes) (no_entry_in prefix 5 store.schema.indexes bytes refl)
        ∙ clear_leaves m (record_key prefix key) (place prefix 5 ++ bytes) (other_place prefix 1 key 5 [] (place prefix 5 ++ bytes) refl (bytes, refl)) ∙ holds.states bytes;
    ranges =
        kept_ranges prefix store.status m n store.schema.indexes
        (λ number bytes.
        let at = built_place prefix number ++ bytes in
        leaves at (no_entry_at prefix 6 (int (pos number) ∷ []) store.schema.indexes at refl (bytes, refl))
        ∙ clear_leaves m (record_key prefix key) at (other_place prefix 1 key 6 (int (pos number) ∷ []) at refl (bytes, refl))) holds.ranges;
    nothing_else = λ at under elsewhere.
        leaves at elsewhere.entries
        ∙ clear_leaves m (record_key prefix key) at (λ same. elsewhere.records (record_in_place prefix key at same)) ∙ holds.nothing_else at under elsewhere;
  }
    where
      other : (bytes : List ℕ) → (place prefix 1 ++ bytes ≡ record_key prefix key → ⊥) → get n (place prefix 1 ++ bytes) ≡ get m (place prefix 1 ++ bytes)
      other bytes apart = leaves (place prefix 1 ++ bytes) (no_entry_in prefix 1 store.schema.indexes bytes refl) ∙ clear_leaves m (record_key prefix key) (place prefix 1 ++ bytes) apart

      by_key : (bytes : List ℕ) (b : Bool) → is_eq (key_cmp (place prefix 1 ++ bytes) (record_key prefix key)) ≡ b → IsNoRecord prefix (without_record key store.records) (place prefix 1 ++ bytes) → get n (place prefix 1 ++ bytes) ≡ None
      by_key bytes true same none =
          leaves (place prefix 1 ++ bytes) (no_entry_in prefix 1 store.schema.indexes bytes refl)
          ∙ ap (get (after (ClearRange (point (record_key prefix key))) m)) (tied_keys (place prefix 1 ++ bytes) (record_key prefix key) same)
          ∙ clear_there m (record_key prefix key)
      by_key bytes false differs none =
          let at = place prefix 1 ++ bytes in
          let apart : at ≡ record_key prefix key → ⊥ = λ same. true≢false (sym (ap (λ k. is_eq (key_cmp k (record_key prefix key))) same ∙ ap is_eq (tied_itself nat_list_cmp_total (record_key prefix key))) ∙ differs) in
          other bytes apart ∙ holds.records.no_others bytes (none_with key at store.records t holds.lawful.storable apart none)

  -- ---- a schema

  -- with a schema's pair put where nothing is, nothing is at each other key
  pub made_nothing : (m : Map) (value : List ℕ) (n : ℕ) (ns : List Item) (bytes : List ℕ) → (nat_lt 0 7 && (nat_lt n 7 && not (n == 0))) ≡ true → Holds prefix m None →
      get (after (Set (schema_key prefix) value) m) (subspace_key prefix (int (pos n) ∷ ns) ++ bytes) ≡ None
  made_nothing m value n ns bytes differ holds =
      set_leaves m (schema_key prefix) value (subspace_key prefix (int (pos n) ∷ ns) ++ bytes) (other_place prefix 0 [] n ns (subspace_key prefix (int (pos n) ∷ ns) ++ bytes) differ (bytes, refl))
      ∙ nothing_at prefix m (spelling (int (pos n) ∷ ns)) bytes holds

  -- CREATE: with a schema's pair put where nothing is, the map holds the new store
  pub created_holds : (m : Map) (schema : Schema) → IsLawfulSchema schema → Holds prefix m None → Holds prefix (after (Set (schema_key prefix) (schema_bytes schema)) m) (Some (created schema))
  created_holds m schema made holds = record {
    lawful = record { schema = made; typed = tt; ordered = tt; storable = tt };
    schema = set_there m (schema_key prefix) (schema_bytes schema);
    records = record { each = tt; no_others = λ bytes none. made_nothing m (schema_bytes schema) 1 [] bytes refl holds };
    entries = each schema.indexes;
    states =
        subst (λ ss. HasPairs (place prefix 5) (map (state_pair prefix) ss) (after (Set (schema_key prefix) (schema_bytes schema)) m)) (sym (none_listed schema.indexes))
        (λ bytes. made_nothing m (schema_bytes schema) 5 [] bytes refl holds ∙ sym (get-stored [] (place prefix 5 ++ bytes)));
    ranges = none_of schema.indexes;
    nothing_else = λ at under elsewhere. set_leaves m (schema_key prefix) (schema_bytes schema) at elsewhere.schema ∙ ap (get m) under.1 ∙ holds under.0;
  }
    where
      each : (indexes : List IndexDefinition) → AllByRecursion (λ index. HasIndex prefix [] (after (Set (schema_key prefix) (schema_bytes schema)) m) index Readable) indexes
      each [] = tt
      each (index ∷ indexes) = (
        defined_none index.kind prefix index [] (after (Set (schema_key prefix) (schema_bytes schema)) m) refl
            (λ bytes. made_nothing m (schema_bytes schema) 2 (int (pos index.number) ∷ []) bytes refl holds),
        each indexes,
      )

      none_listed : (indexes : List IndexDefinition) → listed_by indexes (λ number. declared.Readable) ≡ []
      none_listed [] = refl
      none_listed (index ∷ indexes) = none_listed indexes

      none_of : (indexes : List IndexDefinition) → AllByRecursion (λ index. HasPositions prefix index.number (after (Set (schema_key prefix) (schema_bytes schema)) m) Readable) indexes
      none_of [] = tt
      none_of (index ∷ indexes) = (λ bytes. made_nothing m (schema_bytes schema) 6 (int (pos index.number) ∷ []) bytes refl holds, none_of indexes)

  -- SCHEMA: with another schema's pair put, with the same indexes, of which the records are too, the map holds the store with that schema
  pub extended_holds : (m : Map) (store : Store) (schema : Schema) → schema.indexes ≡ store.schema.indexes → IsLawfulSchema schema → AllByRecursion (IsOfSchema schema) store.records → Holds prefix m (Some store) →
      Holds prefix (after (Set (schema_key prefix) (schema_bytes schema)) m) (Some (extended store schema))
  extended_holds m store schema same made typed holds = record {
    lawful = lawful_so store schema store.status made typed holds.lawful;
    schema = set_there m (schema_key prefix) (schema_bytes schema);
    records = kept_records prefix store.records m then (λ bytes. leaves 1 [] bytes refl) holds.records;
    entries =
        subst (AllByRecursion (λ index. HasIndex prefix store.records then index (store.status index.number))) (sym same)
        (kept_indexes prefix store.records store.status m then store.schema.indexes (λ number bytes. leaves 2 (int (pos number) ∷ []) bytes refl) holds.entries);
    states = λ bytes.
        leaves 5 [] bytes refl ∙ subst (λ is. HasPairs (place prefix 5) (map (state_pair prefix) (listed_by is (state_of store))) m) (sym same) holds.states bytes;
    ranges =
        subst (AllByRecursion (λ index. HasPositions prefix index.number then (store.status index.number))) (sym same)
        (kept_ranges prefix store.status m then store.schema.indexes (λ number bytes. leaves 6 (int (pos number) ∷ []) bytes refl) holds.ranges);
    nothing_else = λ at under elsewhere.
        set_leaves m (schema_key prefix) (schema_bytes schema) at elsewhere.schema
        ∙ holds.nothing_else at under (record { schema = elsewhere.schema; records = elsewhere.records; entries = subst (λ is. IsNoEntry prefix is at) same elsewhere.entries; states = elsewhere.states; ranges = subst (λ is. IsNoRange prefix is at) same elsewhere.ranges });
  }
    where
      then : Map
      then = after (Set (schema_key prefix) (schema_bytes schema)) m

      leaves : (n : ℕ) (ns : List Item) (bytes : List ℕ) → (nat_lt 0 7 && (nat_lt n 7 && not (n == 0))) ≡ true → get then (subspace_key prefix (int (pos n) ∷ ns) ++ bytes) ≡ get m (subspace_key prefix (int (pos n) ∷ ns) ++ bytes)
      leaves n ns bytes differ =
          set_leaves m (schema_key prefix) (schema_bytes schema) (subspace_key prefix (int (pos n) ∷ ns) ++ bytes) (other_place prefix 0 [] n ns (subspace_key prefix (int (pos n) ∷ ns) ++ bytes) differ (bytes, refl))
