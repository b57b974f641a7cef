-- What a map holds of a store after an index is added.
use Rattle.std.proofs.Common.{◌≡◌, ℕ, Bool, true, false, not, ◌||◌, ◌==◌, ◌<◌, ◌^◌, List, [], ◌∷◌, ◌++◌, append-nil, refl, sym, ap, subst, ◌∙◌, Some, None, map, pos}
use Rattle.std.specs.Prelude.{filter}
use Rattle.std.specs.FinMap.{get}
use Rattle.std.specs.List.{AllByRecursion}
use Rattle.std.proofs.lemmas.Bool.{eq-eqb, or_right}
use Rattle.std.proofs.lemmas.List.{map-append}
use Rattle.std.proofs.lemmas.List.Elements.{filter-append}
use Rattle.std.proofs.lemmas.List.Folds.{list_any-append}
use Rattle.tuple_codec.specs.Item.{int}
use Rattle.tuple_codec.specs.Spelling.{spelling}
use Rattle.tuple_codec.specs.Subspace.{BeginsWith}
use Rattle.kv_core.specs.Map.{Map, after, after_all}
use Rattle.kv_core.specs.declared.change.Mutation.TheVariants.{Set}
use Rattle.metadata.specs.declared.index.IndexDefinition.{IndexDefinition}
use Rattle.metadata.specs.declared.index.State.{State}
use Rattle.metadata.specs.declared.index.State.TheVariants.{Readable, Disabled}
use Rattle.metadata.specs.Index.{is_readable}
use Rattle.metadata.specs.IndexChange.{with_index}
use Rattle.metadata.specs.Lawful.{IsLawfulSchema}
use Rattle.metadata.specs.Record.{Record}
use Rattle.metadata.specs.Records.{of_type}
use Rattle.metadata.specs.Written.{schema_bytes}
use Rattle.index_maint.specs.Layout.{entries_prefix}
use Rattle.index_maint.proofs.KeptLaw.{defined_none}
use Rattle.index_maint.proofs.Places.{begins_before, indexes_apart, parts_apart}
use Rattle.index_maint.proofs.Several.{AreApart}
use Rattle.record_store.specs.Store.{Store, extended, indexed, listed_by, listed_states, marked, marked_so, new_state, altered_at, state_by, state_of}
use Rattle.record_store.specs.Layout.{built_place, place, schema_key, state_key, state_pair, state_value}
use Rattle.record_store.specs.Holds.{HasPairs, HasPositions, Holds, IsNoEntry, IsNoRange, has_number}
use Rattle.record_store.specs.IndexWrites.{index_added_writes, state_writes}
use Rattle.record_store.proofs.IndexChanges.{nothing_stays, other_range, other_stays, positions_bare, records_stay}
use Rattle.record_store.proofs.Kept.{HasIndex, itself, lawful_so, no_entry_at, no_range_at, not_entry, not_range, other_place, set_leaves, set_there}
use Rattle.record_store.proofs.Listed.{all_others, listed_same, marked_is, put_itself, put_other, put_twice, schema_apart}
use Rattle.record_store.proofs.States.{states_put}

-- ---- the last index

pub all_append : {X : Type 0} (P : X → Type 0) (xs : List X) (last : X) → AllByRecursion P xs → P last → AllByRecursion P (xs ++ last ∷ [])
all_append P [] last all is = (is, tt)
all_append P (x ∷ xs) last all is = (all.0, all_append P xs last all.1 is)

all_parts : {X : Type 0} (P : X → Type 0) (xs : List X) (last : X) → AllByRecursion P (xs ++ last ∷ []) → AllByRecursion P xs × P last
all_parts P [] last all = (tt, all.0)
all_parts P (x ∷ xs) last all = let rest = all_parts P xs last all.1 in ((all.0, rest.0), rest.1)

-- its number is one of 64 bits, and differs from those of the others
last_low : (indexes : List IndexDefinition) (last : IndexDefinition) → AreApart (indexes ++ last ∷ []) → last.number < 2 ^ 64
last_low [] last apart = apart.0
last_low (index ∷ indexes) last apart = last_low indexes last apart.2

last_other : (indexes : List IndexDefinition) (last : IndexDefinition) → AreApart (indexes ++ last ∷ []) → AllByRecursion (λ index. index.number ≡ last.number → ⊥) indexes
last_other [] last apart = tt
last_other (index ∷ indexes) last apart = ((all_parts (λ i. index.number ≡ i.number → ⊥) indexes last apart.1).1, last_other indexes last apart.2)

module _ (prefix : List ℕ) (m : Map) (store : Store) (index : IndexDefinition) (made : IsLawfulSchema (with_index store.schema index)) (holds : Holds prefix m (Some store)) where
  apart_old : AreApart store.schema.indexes
  apart_old = schema_apart store.schema holds.lawful.schema

  apart_new : AreApart (store.schema.indexes ++ index ∷ [])
  apart_new = schema_apart (with_index store.schema index) made

  low : index.number < 2 ^ 64
  low = last_low store.schema.indexes index apart_new

  others : AllByRecursion (λ i. i.number ≡ index.number → ⊥) store.schema.indexes
  others = last_other store.schema.indexes index apart_new

  -- nothing was at the keys of its entries
  nothing_before : (bytes : List ℕ) → get m (entries_prefix prefix index.number ++ bytes) ≡ None
  nothing_before bytes =
      holds.nothing_else at (begins_before prefix (spelling (int (pos 2) ∷ int (pos index.number) ∷ [])) at (bytes, refl)) (record {
        schema = other_place prefix 0 [] 2 (int (pos index.number) ∷ []) at refl (bytes, refl);
        records = λ begins. not_entry prefix index.number 1 [] at refl begins (bytes, refl);
        entries = none_of store.schema.indexes apart_old others;
        states = λ begins. not_entry prefix index.number 5 [] at refl begins (bytes, refl);
        ranges = no_range_at prefix 2 (int (pos index.number) ∷ []) store.schema.indexes at refl (bytes, refl);
      })
    where
      at : List ℕ
      at = entries_prefix prefix index.number ++ bytes

      none_of : (indexes : List IndexDefinition) → AreApart indexes → AllByRecursion (λ i. i.number ≡ index.number → ⊥) indexes → IsNoEntry prefix indexes at
      none_of [] apart differ = tt
      none_of (i ∷ indexes) apart differ = (λ begins. differ.0 (indexes_apart prefix at i.number index.number apart.0 low begins (bytes, refl)), none_of indexes apart.2 differ.1)

  -- nor of its built ranges
  no_range_before : (bytes : List ℕ) → get m (built_place prefix index.number ++ bytes) ≡ None
  no_range_before bytes =
      holds.nothing_else at (begins_before prefix (spelling (int (pos 6) ∷ int (pos index.number) ∷ [])) at (bytes, refl)) (record {
        schema = other_place prefix 0 [] 6 (int (pos index.number) ∷ []) at refl (bytes, refl);
        records = λ begins. not_range prefix index.number 1 [] at refl begins (bytes, refl);
        entries = no_entry_at prefix 6 (int (pos index.number) ∷ []) store.schema.indexes at refl (bytes, refl);
        states = λ begins. not_range prefix index.number 5 [] at refl begins (bytes, refl);
        ranges = none_of store.schema.indexes apart_old others;
      })
    where
      at : List ℕ
      at = built_place prefix index.number ++ bytes

      none_of : (indexes : List IndexDefinition) → AreApart indexes → AllByRecursion (λ i. i.number ≡ index.number → ⊥) indexes → IsNoRange prefix indexes at
      none_of [] apart differ = tt
      none_of (i ∷ indexes) apart differ = (λ begins. differ.0 (parts_apart prefix at (int (pos 6)) i.number index.number [] [] apart.0 low begins (bytes, refl)), none_of indexes apart.2 differ.1)

  -- the store with the index in a state
  abbrev now : State → Store
  now state = marked (extended store (with_index store.schema index)) index.number state

  there : has_number (store.schema.indexes ++ index ∷ []) index.number ≡ true
  there =
      list_any-append (λ (i : IndexDefinition). i.number == index.number) store.schema.indexes (index ∷ [])
      ∙ or_right (has_number store.schema.indexes index.number) (has_number (index ∷ []) index.number) (ap (λ b. b || false) (eq-eqb index.number index.number refl))

  -- where it is readable the same is listed as before
  same_listed : listed_states (now Readable) ≡ listed_states store
  same_listed =
      let f = state_of (now Readable) in
      let p : ℕ × State → Bool = λ one. not (is_readable one.1) in
      let g : IndexDefinition → ℕ × State = λ i. (i.number, f i.number) in
      ap (filter p) (map-append g store.schema.indexes (index ∷ [])) ∙ filter-append p (map g store.schema.indexes) (map g (index ∷ []))
      ∙ ap (λ s. listed_by store.schema.indexes f ++ filter p ((index.number, s) ∷ [])) (ap state_by (put_itself index.number (marked_so Readable) store.status index.number refl))
      ∙ append-nil (listed_by store.schema.indexes f) ∙ listed_same f (state_of store) store.schema.indexes (each store.schema.indexes others)
    where
      each : (indexes : List IndexDefinition) → AllByRecursion (λ i. i.number ≡ index.number → ⊥) indexes → AllByRecursion (λ i. state_of (now Readable) i.number ≡ state_of store i.number) indexes
      each [] differ = tt
      each (i ∷ indexes) differ = (ap state_by (put_other index.number (marked_so Readable) store.status i.number differ.0), each indexes differ.1)

  -- what the map holds once the new schema stands, and its state, if it has one
  module _ (state : State) (n : Map)
      (leaves : (at : List ℕ) → (at ≡ schema_key prefix → ⊥) → (at ≡ state_key prefix index.number → ⊥) → (BeginsWith (entries_prefix prefix index.number) at → ⊥) → (BeginsWith (built_place prefix index.number) at → ⊥) → get n at ≡ get m at) where
    indexed_by : get n (schema_key prefix) ≡ Some (schema_bytes (with_index store.schema index)) → HasPairs (place prefix 5) (map (state_pair prefix) (listed_states (now state))) n →
        HasIndex prefix store.records n index (marked_so state) → ((bytes : List ℕ) → get n (built_place prefix index.number ++ bytes) ≡ None) → Holds prefix n (Some (now state))
    indexed_by written listed_now new none = record {
      lawful = lawful_so store (with_index store.schema index) (altered_at index.number (marked_so state) store.status) made holds.lawful.typed holds.lawful;
      schema = written;
      records = records_stay prefix m n store index.number low holds leaves;
      entries =
          all_append (λ i. HasIndex prefix store.records n i ((now state).status i.number)) store.schema.indexes index
          (all_others (HasIndex prefix store.records m) (HasIndex prefix store.records n) index.number (marked_so state) store.status (other_stays prefix m n store index.number low holds leaves) store.schema.indexes apart_old others holds.entries)
          (subst (HasIndex prefix store.records n index) (sym (put_itself index.number (marked_so state) store.status index.number refl)) new);
      states = listed_now;
      ranges =
          all_append (λ i. HasPositions prefix i.number n ((now state).status i.number)) store.schema.indexes index
          (all_others (λ i. HasPositions prefix i.number m) (λ i. HasPositions prefix i.number n) index.number (marked_so state) store.status (other_range prefix m n store index.number low holds leaves) store.schema.indexes apart_old others holds.ranges)
          (subst (HasPositions prefix index.number n) (sym (put_itself index.number (marked_so state) store.status index.number refl)) (positions_bare state prefix index.number n none));
      nothing_else = λ at under elsewhere.
          let parts = all_parts (λ i. BeginsWith (entries_prefix prefix i.number) at → ⊥) store.schema.indexes index elsewhere.entries in
          let ranges = all_parts (λ i. BeginsWith (built_place prefix i.number) at → ⊥) store.schema.indexes index elsewhere.ranges in
          nothing_stays prefix m n store index.number low holds leaves at under (record { schema = elsewhere.schema; records = elsewhere.records; entries = parts.0; states = elsewhere.states; ranges = ranges.0 }) parts.1 ranges.1;
    }

  -- the map with the new schema
  abbrev first : Map
  first = after (Set (schema_key prefix) (schema_bytes (with_index store.schema index))) m

  first_leaves : (at : List ℕ) → (at ≡ schema_key prefix → ⊥) → get first at ≡ get m at
  first_leaves at schema = set_leaves m (schema_key prefix) (schema_bytes (with_index store.schema index)) at schema

  first_nothing : (bytes : List ℕ) → get first (entries_prefix prefix index.number ++ bytes) ≡ None
  first_nothing bytes =
      first_leaves (entries_prefix prefix index.number ++ bytes) (other_place prefix 0 [] 2 (int (pos index.number) ∷ []) (entries_prefix prefix index.number ++ bytes) refl (bytes, refl)) ∙ nothing_before bytes

  first_ranges : (bytes : List ℕ) → get first (built_place prefix index.number ++ bytes) ≡ None
  first_ranges bytes =
      first_leaves (built_place prefix index.number ++ bytes) (other_place prefix 0 [] 6 (int (pos index.number) ∷ []) (built_place prefix index.number ++ bytes) refl (bytes, refl)) ∙ no_range_before bytes

  first_states : HasPairs (place prefix 5) (map (state_pair prefix) (listed_states (now Readable))) first
  first_states =
      subst (λ ss. HasPairs (place prefix 5) (map (state_pair prefix) ss) first) (sym same_listed)
      (λ bytes. first_leaves (place prefix 5 ++ bytes) (other_place prefix 0 [] 5 [] (place prefix 5 ++ bytes) refl (bytes, refl)) ∙ holds.states bytes)

  -- NO RECORDS: where no record is of the type the index is readable
  readable_now : of_type index.type_number store.records ≡ [] → Holds prefix first (Some (now Readable))
  readable_now none =
      indexed_by Readable first (λ at schema state entry range. first_leaves at schema) (set_there m (schema_key prefix) (schema_bytes (with_index store.schema index))) first_states
      (defined_none index.kind prefix index store.records first none first_nothing) first_ranges

  -- RECORDS: where there are some it is disabled
  disabled_now : Holds prefix (after (Set (state_key prefix index.number) (state_value Disabled)) first) (Some (now Disabled))
  disabled_now =
      indexed_by Disabled last (λ at schema state entry range. put_leaves at state ∙ first_leaves at schema)
      (put_leaves (schema_key prefix) (other_place prefix 5 (int (pos index.number) ∷ []) 0 [] (schema_key prefix) refl (itself (schema_key prefix))) ∙ set_there m (schema_key prefix) (schema_bytes (with_index store.schema index)))
      (subst (λ f. HasPairs (place prefix 5) (map (state_pair prefix) (listed_by (store.schema.indexes ++ index ∷ []) f)) last) states_now (states_put prefix index.number Disabled (now Readable) first made there refl first_states))
      (λ bytes.
      put_leaves (entries_prefix prefix index.number ++ bytes) (other_place prefix 5 (int (pos index.number) ∷ []) 2 (int (pos index.number) ∷ []) (entries_prefix prefix index.number ++ bytes) refl (bytes, refl))
      ∙ first_nothing bytes)
      (λ bytes.
      put_leaves (built_place prefix index.number ++ bytes) (other_place prefix 5 (int (pos index.number) ∷ []) 6 (int (pos index.number) ∷ []) (built_place prefix index.number ++ bytes) refl (bytes, refl))
      ∙ first_ranges bytes)
    where
      last : Map
      last = after (Set (state_key prefix index.number) (state_value Disabled)) first

      put_leaves : (at : List ℕ) → (at ≡ state_key prefix index.number → ⊥) → get last at ≡ get first at
      put_leaves at state = set_leaves first (state_key prefix index.number) (state_value Disabled) at state

      states_now : altered_at index.number Disabled (state_of (now Readable)) ≡ state_of (now Disabled)
      states_now =
          sym (marked_is (now Readable) index.number Disabled)
          ∙ (λ j n. state_by (put_twice index.number (marked_so Readable) (marked_so Disabled) store.status j n))

  -- INDEX: with the schema put, and the state of the new index where it has one, the map holds the store with the index
  pub indexed_holds : Holds prefix (after_all (index_added_writes prefix store index) m) (Some (indexed store index))
  indexed_holds = by_records (of_type index.type_number store.records) refl
    where
      by_records : (records : List Record) → of_type index.type_number store.records ≡ records →
          Holds prefix (after_all (Set (schema_key prefix) (schema_bytes (with_index store.schema index)) ∷ state_writes prefix index.number (new_state records)) m) (Some (now (new_state records)))
      by_records [] is = readable_now is
      by_records (r ∷ records) is = disabled_now
