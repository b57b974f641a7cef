-- What a map holds of a store after a write-only index is marked readable.
use Rattle.std.proofs.Common.{◌≡◌, ℕ, true, ◌<◌, ◌^◌, List, [], ◌∷◌, ◌++◌, refl, sym, ap, subst, ◌∙◌, Some, None, map, pos}
use Rattle.std.specs.FinMap.{get}
use Rattle.tuple_codec.specs.Item.{int}
use Rattle.tuple_codec.specs.Subspace.{BeginsWith}
use Rattle.kv_core.specs.Map.{Map, after, after_all}
use Rattle.kv_core.specs.Range.{point}
use Rattle.kv_core.specs.declared.change.Mutation.TheVariants.{ClearRange}
use Rattle.range_set.specs.Gaps.{is_whole}
use Rattle.metadata.specs.declared.index.IndexDefinition.{IndexDefinition}
use Rattle.metadata.specs.declared.index.State.TheVariants.{Readable, WriteOnly}
use Rattle.index_maint.specs.Kept.{HasKept}
use Rattle.index_maint.specs.Layout.{entries_prefix}
use Rattle.index_maint.proofs.KeptLaw.{kept_whole, kept_within}
use Rattle.record_store.specs.Store.{Store, altered_at, built_of, listed_by, marked, marked_so, state_of}
use Rattle.record_store.specs.Layout.{built_place, built_range, place, schema_key, state_key, state_pair}
use Rattle.record_store.specs.Holds.{HasPairs, HasPositions, Holds, has_number}
use Rattle.record_store.specs.IndexWrites.{readable_writes}
use Rattle.record_store.proofs.BuiltRanges.{ranges_leave}
use Rattle.record_store.proofs.IndexChanges.{at_or_none, cleared_ranges, other_range, other_stays, positions_bare, records_stay}
use Rattle.record_store.proofs.Kept.{HasIndex, clear_leaves, itself, lawful_so, not_range, other_place, state_in_place}
use Rattle.record_store.proofs.Listed.{all_put, marked_is, number_low, schema_apart}
use Rattle.record_store.proofs.States.{states_cleared}

module _ (prefix : List ℕ) (m : Map) (store : Store) (number : ℕ) (there : has_number store.schema.indexes number ≡ true) (holds : Holds prefix m (Some store)) where
  -- READABLE: where every position is built, with the state and the built ranges cleared, the map holds the store with the index readable
  pub readable_holds : state_of store number ≡ WriteOnly → is_whole (built_of store number) ≡ true → Holds prefix (after_all (readable_writes prefix number) m) (Some (marked store number Readable))
  readable_holds building whole = record {
    lawful = lawful_so store store.schema (altered_at number (marked_so Readable) store.status) holds.lawful.schema holds.lawful.typed holds.lawful;
    schema =
        stays (schema_key prefix) (other_place prefix 5 (int (pos number) ∷ []) 0 [] (schema_key prefix) refl (itself (schema_key prefix))) (not_range prefix number 0 [] (schema_key prefix) refl (itself (schema_key prefix)))
        ∙ holds.schema;
    records = records_stay prefix m last store number low holds leaves;
    entries =
        all_put (HasIndex prefix store.records m) (HasIndex prefix store.records last) number (marked_so Readable) store.status (other_stays prefix m last store number low holds leaves) own store.schema.indexes
        (schema_apart store.schema holds.lawful.schema) holds.entries;
    states = λ bytes.
        let at = place prefix 5 ++ bytes in
        ranges_leave prefix number first at (not_range prefix number 5 [] at refl (bytes, refl))
        ∙ subst (λ f. HasPairs (place prefix 5) (map (state_pair prefix) (listed_by store.schema.indexes f)) first) (sym (marked_is store number Readable))
        (states_cleared prefix number store m holds.lawful.schema low holds.states) bytes;
    ranges =
        all_put (λ index. HasPositions prefix index.number m) (λ index. HasPositions prefix index.number last) number (marked_so Readable) store.status (other_range prefix m last store number low holds leaves)
        (λ index same has. positions_bare Readable prefix index.number last (subst (λ k. (bytes : List ℕ) → get last (built_place prefix k ++ bytes) ≡ None) (sym same) bare)) store.schema.indexes
        (schema_apart store.schema holds.lawful.schema) holds.ranges;
    nothing_else = λ at under elsewhere.
        at_or_none last (built_place prefix number) at bare (λ apart. stays at (λ same. elsewhere.states (state_in_place prefix number at same)) apart ∙ holds.nothing_else at under elsewhere);
  }
    where
      low : number < 2 ^ 64
      low = number_low store.schema.indexes number (schema_apart store.schema holds.lawful.schema) there

      first : Map
      first = after (ClearRange (point (state_key prefix number))) m

      last : Map
      last = after (ClearRange (built_range prefix number)) first

      stays : (at : List ℕ) → (at ≡ state_key prefix number → ⊥) → (BeginsWith (built_place prefix number) at → ⊥) → get last at ≡ get m at
      stays at listed range = ranges_leave prefix number first at range ∙ clear_leaves m (state_key prefix number) at listed

      leaves : (at : List ℕ) → (at ≡ schema_key prefix → ⊥) → (at ≡ state_key prefix number → ⊥) → (BeginsWith (entries_prefix prefix number) at → ⊥) → (BeginsWith (built_place prefix number) at → ⊥) → get last at ≡ get m at
      leaves at schema listed entry range = stays at listed range

      bare : (rest : List ℕ) → get last (built_place prefix number ++ rest) ≡ None
      bare =
          cleared_ranges prefix m first store number there holds
          (λ rest. clear_leaves m (state_key prefix number) (built_place prefix number ++ rest)
          (other_place prefix 5 (int (pos number) ∷ []) 6 (int (pos number) ∷ []) (built_place prefix number ++ rest) refl (rest, refl)))

      -- entries stay
      entries_stay : (n : ℕ) (bytes : List ℕ) → get last (entries_prefix prefix n ++ bytes) ≡ get m (entries_prefix prefix n ++ bytes)
      entries_stay n bytes =
          let at = entries_prefix prefix n ++ bytes in
          stays at (other_place prefix 5 (int (pos number) ∷ []) 2 (int (pos n) ∷ []) at refl (bytes, refl)) (not_range prefix number 2 (int (pos n) ∷ []) at refl (bytes, refl))

      -- all its records are built
      own : (index : IndexDefinition) → index.number ≡ number → HasIndex prefix store.records m index (store.status index.number) → HasIndex prefix store.records last index (marked_so Readable)
      own index same has =
          kept_whole prefix index (built_of store index.number) store.records last (ap (λ k. is_whole (built_of store k)) same ∙ whole) holds.lawful.storable
          (kept_within WriteOnly prefix index (built_of store index.number) store.records m last (λ bytes. sym (entries_stay index.number bytes))
          (subst (λ s. HasKept s prefix index (built_of store index.number) store.records m) (ap (state_of store) same ∙ building) has))
