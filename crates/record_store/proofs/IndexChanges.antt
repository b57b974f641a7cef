-- What a map holds of a store after an index is marked with a state other than readable, or dropped.
use Rattle.std.proofs.Common.{◌≡◌, inl, inr, ℕ, Bool, true, false, not, cond, ◌==◌, ◌<◌, ◌^◌, List, [], ◌∷◌, ◌++◌, refl, sym, ap, subst, ◌∙◌, Some, None, map, pos}
use Rattle.std.specs.Prelude.{filter}
use Rattle.std.specs.FinMap.{get}
use Rattle.std.specs.List.{AllByRecursion}
use Rattle.std.proofs.lemmas.Bool.{eqb-true}
use Rattle.tuple_codec.specs.Item.{int}
use Rattle.tuple_codec.specs.Subspace.{BeginsWith}
use Rattle.kv_core.specs.Map.{Map, after, after_all}
use Rattle.kv_core.specs.Range.{point}
use Rattle.kv_core.specs.declared.change.Mutation.TheVariants.{Set, ClearRange}
use Rattle.metadata.specs.declared.index.IndexDefinition.{IndexDefinition}
use Rattle.metadata.specs.declared.index.State.{State}
use Rattle.metadata.specs.declared.index.State.TheVariants.{Readable, WriteOnly, Disabled}
use Rattle.metadata.specs.Index.{is_readable}
use Rattle.metadata.specs.IndexChange.{without_index}
use Rattle.metadata.specs.Lawful.{IsLawfulSchema}
use Rattle.metadata.specs.Record.{Record}
use Rattle.metadata.specs.Written.{schema_bytes}
use Rattle.index_maint.specs.Layout.{entries_prefix}
use Rattle.index_maint.proofs.KeptLaw.{kept_starts}
use Rattle.index_maint.proofs.Places.{indexes_apart, parts_apart}
use Rattle.range_set.proofs.OneSet.{empty_set}
use Rattle.record_store.specs.Store.{Status, Store, altered_at, dropped, listed_by, marked, marked_so, state_of}
use Rattle.record_store.specs.Layout.{built_place, built_range, entries_range, place, schema_key, state_key, state_pair, state_value}
use Rattle.record_store.specs.Holds.{HasPairs, HasPositions, HasRecords, Holds, IsElsewhere, has_number}
use Rattle.record_store.specs.IndexWrites.{drop_writes, marked_writes}
use Rattle.record_store.proofs.BuiltRanges.{no_range_out, ranges_clear, ranges_leave}
use Rattle.record_store.proofs.EntryRanges.{begins_or_other, nothing_out_of, range_clears, range_leaves}
use Rattle.record_store.proofs.Kept.{HasIndex, clear_leaves, itself, kept_index, kept_range, kept_records, lawful_so, not_entry, not_range, other_place, set_leaves, set_there, state_in_place}
use Rattle.record_store.proofs.Listed.{all_left, all_put, listed_without, marked_is, number_low, schema_apart}
use Rattle.record_store.proofs.States.{states_cleared, states_put}

-- a change of an index leaves what is neither the schema's pair, nor its state, nor its entries
module _ (prefix : List ℕ) (m n : Map) (store : Store) (number : ℕ) (low : number < 2 ^ 64) (holds : Holds prefix m (Some store))
    (leaves : (at : List ℕ) → (at ≡ schema_key prefix → ⊥) → (at ≡ state_key prefix number → ⊥) → (BeginsWith (entries_prefix prefix number) at → ⊥) → (BeginsWith (built_place prefix number) at → ⊥) → get n at ≡ get m at) where
  pub records_stay : HasRecords prefix store.records n
  records_stay =
      kept_records prefix store.records m n
      (λ bytes.
      let at = place prefix 1 ++ bytes in
      leaves at (other_place prefix 0 [] 1 [] at refl (bytes, refl)) (other_place prefix 5 (int (pos number) ∷ []) 1 [] at refl (bytes, refl)) (not_entry prefix number 1 [] at refl (bytes, refl)) (not_range prefix number 1 [] at refl (bytes, refl))) holds.records

  pub other_stays : (index : IndexDefinition) (status : Status) → index.number < 2 ^ 64 → (index.number ≡ number → ⊥) → HasIndex prefix store.records m index status → HasIndex prefix store.records n index status
  other_stays index status small differ has =
      kept_index prefix store.records m n index status
      (λ bytes.
      let at = entries_prefix prefix index.number ++ bytes in
      leaves at (other_place prefix 0 [] 2 (int (pos index.number) ∷ []) at refl (bytes, refl)) (other_place prefix 5 (int (pos number) ∷ []) 2 (int (pos index.number) ∷ []) at refl (bytes, refl))
      (λ begins. differ (indexes_apart prefix at index.number number small low (bytes, refl) begins)) (not_range prefix number 2 (int (pos index.number) ∷ []) at refl (bytes, refl))) has

  -- so do the built positions of another index
  pub other_range : (index : IndexDefinition) (status : Status) → index.number < 2 ^ 64 → (index.number ≡ number → ⊥) → HasPositions prefix index.number m status → HasPositions prefix index.number n status
  other_range index status small differ has =
      kept_range prefix index.number m n status
      (λ bytes.
      let at = built_place prefix index.number ++ bytes in
      leaves at (other_place prefix 0 [] 6 (int (pos index.number) ∷ []) at refl (bytes, refl)) (other_place prefix 5 (int (pos number) ∷ []) 6 (int (pos index.number) ∷ []) at refl (bytes, refl))
      (not_entry prefix number 6 (int (pos index.number) ∷ []) at refl (bytes, refl))
      (λ begins. differ (parts_apart prefix at (int (pos 6)) index.number number [] [] small low (bytes, refl) begins))) has

  pub nothing_stays : (at : List ℕ) → BeginsWith prefix at → IsElsewhere prefix store.schema.indexes at → (BeginsWith (entries_prefix prefix number) at → ⊥) → (BeginsWith (built_place prefix number) at → ⊥) → get n at ≡ None
  nothing_stays at under elsewhere other apart =
      leaves at elsewhere.schema (λ same. elsewhere.states (state_in_place prefix number at same)) other apart ∙ holds.nothing_else at under elsewhere

-- where the built ranges of an index that is there are cleared it has none
pub cleared_ranges : (prefix : List ℕ) (m first : Map) (store : Store) (number : ℕ) → has_number store.schema.indexes number ≡ true → Holds prefix m (Some store) →
    ((bytes : List ℕ) → get first (built_place prefix number ++ bytes) ≡ get m (built_place prefix number ++ bytes)) →
    (bytes : List ℕ) → get (after (ClearRange (built_range prefix number)) first) (built_place prefix number ++ bytes) ≡ None
cleared_ranges prefix m first store number there holds same bytes =
    ranges_clear prefix number first (built_place prefix number ++ bytes)
    (λ out. same bytes ∙ no_range_out prefix m store.status number store.schema.indexes bytes there holds.ranges out)

-- where the entries of an index are cleared it has none
cleared_entries : (prefix : List ℕ) (m first : Map) (store : Store) (number : ℕ) → has_number store.schema.indexes number ≡ true → Holds prefix m (Some store) →
    ((bytes : List ℕ) → get first (entries_prefix prefix number ++ bytes) ≡ get m (entries_prefix prefix number ++ bytes)) →
    (bytes : List ℕ) → get (after (ClearRange (entries_range prefix number)) first) (entries_prefix prefix number ++ bytes) ≡ None
cleared_entries prefix m first store number there holds same bytes =
    range_clears prefix number first (entries_prefix prefix number ++ bytes)
    (λ out. same bytes ∙ nothing_out_of prefix store.records holds.lawful.storable m store.status number store.schema.indexes bytes there holds.entries out)

-- a key begins so, where none is there then, or it doesn't
pub at_or_none : (n : Map) (begin at : List ℕ) → ((bytes : List ℕ) → get n (begin ++ bytes) ≡ None) → ((BeginsWith begin at → ⊥) → get n at ≡ None) → get n at ≡ None
at_or_none n begin at none other = elim (begins_or_other begin at) [ inl there ↦ ap (get n) there.1 ∙ none there.0 | inr apart ↦ other apart ]

-- where an index has nothing it is had in each state but readable, and no position of it is built
entries_bare : (state : State) (prefix : List ℕ) (index : IndexDefinition) (records : List Record) (m : Map) → is_readable state ≡ false →
    ((bytes : List ℕ) → get m (entries_prefix prefix index.number ++ bytes) ≡ None) → HasIndex prefix records m index (marked_so state)
entries_bare Readable prefix index records m other none = absurd (cc)
entries_bare WriteOnly prefix index records m other none = kept_starts prefix index records m none
entries_bare Disabled prefix index records m other none = none

pub positions_bare : (state : State) (prefix : List ℕ) (number : ℕ) (m : Map) → ((bytes : List ℕ) → get m (built_place prefix number ++ bytes) ≡ None) → HasPositions prefix number m (marked_so state)
positions_bare Readable prefix number m none = none
positions_bare WriteOnly prefix number m none = empty_set (built_place prefix number) m none
positions_bare Disabled prefix number m none = none

module _ (prefix : List ℕ) (m : Map) (store : Store) (number : ℕ) (there : has_number store.schema.indexes number ≡ true) (holds : Holds prefix m (Some store)) where
  low : number < 2 ^ 64
  low = number_low store.schema.indexes number (schema_apart store.schema holds.lawful.schema) there

  -- MARK: with a state that isn't readable put and what is kept cleared, the map holds the store with the index in that state
  pub marked_holds : (state : State) → is_readable state ≡ false → Holds prefix (after_all (marked_writes state prefix number) m) (Some (marked store number state))
  marked_holds state other = record {
    lawful = lawful_so store store.schema (altered_at number (marked_so state) store.status) holds.lawful.schema holds.lawful.typed holds.lawful;
    schema =
        ranges_leave prefix number second (schema_key prefix) (not_range prefix number 0 [] (schema_key prefix) refl (itself (schema_key prefix)))
        ∙ range_leaves prefix number first (schema_key prefix) (not_entry prefix number 0 [] (schema_key prefix) refl (itself (schema_key prefix)))
        ∙ set_leaves m (state_key prefix number) (state_value state) (schema_key prefix) (other_place prefix 5 (int (pos number) ∷ []) 0 [] (schema_key prefix) refl (itself (schema_key prefix))) ∙ holds.schema;
    records = records_stay prefix m last store number low holds leaves;
    entries =
        all_put (HasIndex prefix store.records m) (HasIndex prefix store.records last) number (marked_so state) store.status (other_stays prefix m last store number low holds leaves)
        (λ index same has. entries_bare state prefix index store.records last other (subst (λ k. (bytes : List ℕ) → get last (entries_prefix prefix k ++ bytes) ≡ None) (sym same) none)) store.schema.indexes
        (schema_apart store.schema holds.lawful.schema) holds.entries;
    states = λ bytes.
        let at = place prefix 5 ++ bytes in
        ranges_leave prefix number second at (not_range prefix number 5 [] at refl (bytes, refl))
        ∙ range_leaves prefix number first at (not_entry prefix number 5 [] at refl (bytes, refl))
        ∙ subst (λ f. HasPairs (place prefix 5) (map (state_pair prefix) (listed_by store.schema.indexes f)) first) (sym (marked_is store number state))
        (states_put prefix number state store m holds.lawful.schema there other holds.states) bytes;
    ranges =
        all_put (λ index. HasPositions prefix index.number m) (λ index. HasPositions prefix index.number last) number (marked_so state) store.status (other_range prefix m last store number low holds leaves)
        (λ index same has. positions_bare state prefix index.number last (subst (λ k. (bytes : List ℕ) → get last (built_place prefix k ++ bytes) ≡ None) (sym same) none_built_now)) store.schema.indexes
        (schema_apart store.schema holds.lawful.schema) holds.ranges;
    nothing_else = λ at under elsewhere.
        at_or_none last (entries_prefix prefix number) at none
        (λ other. at_or_none last (built_place prefix number) at none_built_now (nothing_stays prefix m last store number low holds leaves at under elsewhere other));
  }
    where
      first : Map
      first = after (Set (state_key prefix number) (state_value state)) m

      second : Map
      second = after (ClearRange (entries_range prefix number)) first

      last : Map
      last = after (ClearRange (built_range prefix number)) second

      leaves : (at : List ℕ) → (at ≡ schema_key prefix → ⊥) → (at ≡ state_key prefix number → ⊥) → (BeginsWith (entries_prefix prefix number) at → ⊥) → (BeginsWith (built_place prefix number) at → ⊥) → get last at ≡ get m at
      leaves at schema listed entry range =
          ranges_leave prefix number second at range ∙ range_leaves prefix number first at entry ∙ set_leaves m (state_key prefix number) (state_value state) at listed

      none : (bytes : List ℕ) → get last (entries_prefix prefix number ++ bytes) ≡ None
      none bytes =
          let at = entries_prefix prefix number ++ bytes in
          ranges_leave prefix number second at (not_range prefix number 2 (int (pos number) ∷ []) at refl (bytes, refl))
          ∙ cleared_entries prefix m first store number there holds
          (λ more. set_leaves m (state_key prefix number) (state_value state) (entries_prefix prefix number ++ more)
          (other_place prefix 5 (int (pos number) ∷ []) 2 (int (pos number) ∷ []) (entries_prefix prefix number ++ more) refl (more, refl))) bytes

      none_built_now : (bytes : List ℕ) → get last (built_place prefix number ++ bytes) ≡ None
      none_built_now =
          cleared_ranges prefix m second store number there holds
          (λ bytes.
          let at = built_place prefix number ++ bytes in
          range_leaves prefix number first at (not_entry prefix number 6 (int (pos number) ∷ []) at refl (bytes, refl))
          ∙ set_leaves m (state_key prefix number) (state_value state) at (other_place prefix 5 (int (pos number) ∷ []) 6 (int (pos number) ∷ []) at refl (bytes, refl)))

  -- DROP: with the schema without it put, and its entries and its state cleared, the map holds the store without the index
  pub dropped_holds : IsLawfulSchema (without_index store.schema number) → Holds prefix (after_all (drop_writes prefix store number) m) (Some (dropped store number))
  dropped_holds made = record {
    lawful = lawful_so store (without_index store.schema number) (altered_at number (marked_so Readable) store.status) made holds.lawful.typed holds.lawful;
    schema =
        clear_leaves third (state_key prefix number) (schema_key prefix) (other_place prefix 5 (int (pos number) ∷ []) 0 [] (schema_key prefix) refl (itself (schema_key prefix)))
        ∙ ranges_leave prefix number second (schema_key prefix) (not_range prefix number 0 [] (schema_key prefix) refl (itself (schema_key prefix)))
        ∙ range_leaves prefix number first (schema_key prefix) (not_entry prefix number 0 [] (schema_key prefix) refl (itself (schema_key prefix))) ∙ set_there m (schema_key prefix) written;
    records = records_stay prefix m last store number low holds leaves;
    entries =
        all_left (HasIndex prefix store.records m) (HasIndex prefix store.records last) number (marked_so Readable) store.status (other_stays prefix m last store number low holds leaves) store.schema.indexes
        (schema_apart store.schema holds.lawful.schema) holds.entries;
    states =
        subst (λ ss. HasPairs (place prefix 5) (map (state_pair prefix) ss) last)
        (sym (listed_without number store.schema.indexes (state_of store)) ∙ ap (listed_by (filter (λ (index : IndexDefinition). not (index.number == number)) store.schema.indexes)) (sym (marked_is store number Readable)))
        (states_cleared prefix number store third holds.lawful.schema low
        (λ bytes.
        let at = place prefix 5 ++ bytes in
        ranges_leave prefix number second at (not_range prefix number 5 [] at refl (bytes, refl))
        ∙ range_leaves prefix number first at (not_entry prefix number 5 [] at refl (bytes, refl))
        ∙ set_leaves m (schema_key prefix) written at (other_place prefix 0 [] 5 [] at refl (bytes, refl)) ∙ holds.states bytes));
    ranges =
        all_left (λ index. HasPositions prefix index.number m) (λ index. HasPositions prefix index.number last) number (marked_so Readable) store.status (other_range prefix m last store number low holds leaves) store.schema.indexes
        (schema_apart store.schema holds.lawful.schema) holds.ranges;
    nothing_else = λ at under elsewhere.
        at_or_none last (entries_prefix prefix number) at none (λ other.
        at_or_none last (built_place prefix number) at none_built_now (λ apart.
        nothing_stays prefix m last store number low holds leaves at under
        (record {
          schema = elsewhere.schema;
          records = elsewhere.records;
          entries = no_more (entries_prefix prefix) at other store.schema.indexes elsewhere.entries;
          states = elsewhere.states;
          ranges = no_more (built_place prefix) at apart store.schema.indexes elsewhere.ranges;
        }) other apart));
  }
    where
      written : List ℕ
      written = schema_bytes (without_index store.schema number)

      first : Map
      first = after (Set (schema_key prefix) written) m

      second : Map
      second = after (ClearRange (entries_range prefix number)) first

      third : Map
      third = after (ClearRange (built_range prefix number)) second

      last : Map
      last = after (ClearRange (point (state_key prefix number))) third

      leaves : (at : List ℕ) → (at ≡ schema_key prefix → ⊥) → (at ≡ state_key prefix number → ⊥) → (BeginsWith (entries_prefix prefix number) at → ⊥) → (BeginsWith (built_place prefix number) at → ⊥) → get last at ≡ get m at
      leaves at schema state entry range =
          clear_leaves third (state_key prefix number) at state ∙ ranges_leave prefix number second at range ∙ range_leaves prefix number first at entry ∙ set_leaves m (schema_key prefix) written at schema

      none : (bytes : List ℕ) → get last (entries_prefix prefix number ++ bytes) ≡ None
      none bytes =
          let at = entries_prefix prefix number ++ bytes in
          clear_leaves third (state_key prefix number) at (other_place prefix 5 (int (pos number) ∷ []) 2 (int (pos number) ∷ []) at refl (bytes, refl))
          ∙ ranges_leave prefix number second at (not_range prefix number 2 (int (pos number) ∷ []) at refl (bytes, refl))
          ∙ cleared_entries prefix m first store number there holds
          (λ more. set_leaves m (schema_key prefix) written (entries_prefix prefix number ++ more)
          (other_place prefix 0 [] 2 (int (pos number) ∷ []) (entries_prefix prefix number ++ more) refl (more, refl))) bytes

      none_built_now : (bytes : List ℕ) → get last (built_place prefix number ++ bytes) ≡ None
      none_built_now bytes =
          let at = built_place prefix number ++ bytes in
          clear_leaves third (state_key prefix number) at (other_place prefix 5 (int (pos number) ∷ []) 6 (int (pos number) ∷ []) at refl (bytes, refl))
          ∙ cleared_ranges prefix m second store number there holds
          (λ more.
          let key = built_place prefix number ++ more in
          range_leaves prefix number first key (not_entry prefix number 6 (int (pos number) ∷ []) key refl (more, refl))
          ∙ set_leaves m (schema_key prefix) written key (other_place prefix 0 [] 6 (int (pos number) ∷ []) key refl (more, refl))) bytes

      no_more : (begin : ℕ → List ℕ) (at : List ℕ) → (BeginsWith (begin number) at → ⊥) → (indexes : List IndexDefinition) →
          AllByRecursion (λ index. BeginsWith (begin index.number) at → ⊥) (filter (λ index. not (index.number == number)) indexes) → AllByRecursion (λ index. BeginsWith (begin index.number) at → ⊥) indexes
      no_more begin at other [] all = tt
      no_more begin at other (index ∷ indexes) all = by_test (index.number == number) refl all (no_more begin at other indexes)
        where
          by_test : (b : Bool) → (index.number == number) ≡ b →
              AllByRecursion (λ index. BeginsWith (begin index.number) at → ⊥) (cond (not b) (index ∷ filter (λ index. not (index.number == number)) indexes) (filter (λ index. not (index.number == number)) indexes)) →
              (AllByRecursion (λ index. BeginsWith (begin index.number) at → ⊥) (filter (λ index. not (index.number == number)) indexes) → AllByRecursion (λ index. BeginsWith (begin index.number) at → ⊥) indexes) →
              AllByRecursion (λ index. BeginsWith (begin index.number) at → ⊥) (index ∷ indexes)
          by_test true is none_of go = (λ begins. other (subst (λ k. BeginsWith (begin k) at) (eqb-true index.number number is) begins), go none_of)
          by_test false is none_of go = (none_of.0, go none_of.1)
