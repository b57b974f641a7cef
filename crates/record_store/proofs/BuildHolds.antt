-- What a map holds of a store after a builder's step: a range in a gap of a write-only index is built.
use Rattle.std.proofs.Common.{◌≡◌, ℕ, Bool, true, false, zero, suc, arith, ◌==◌, cond, ◌<◌, ◌^◌, List, [], ◌∷◌, ◌++◌, length, refl, sym, ap, subst, ◌∙◌, Some, map, pos, unwrap_or}
use Rattle.std.specs.Prelude.{get_or}
use Rattle.std.specs.FinMap.{get}
use Rattle.std.specs.List.{AllByRecursion, Contains}
use Rattle.std.proofs.lemmas.Bool.{eqb-true}
use Rattle.tuple_codec.specs.Item.{bytes, int}
use Rattle.tuple_codec.specs.Spelling.{spelling}
use Rattle.tuple_codec.specs.Subspace.{BeginsWith}
use Rattle.kv_core.specs.Map.{Map, after, after_all}
use Rattle.kv_core.specs.Range.{KeyRange, point}
use Rattle.kv_core.specs.declared.change.Mutation.{Mutation}
use Rattle.kv_core.specs.declared.change.Mutation.TheVariants.{ClearRange, Set}
use Rattle.kv_core.proofs.Changes.{after_all-append}
use Rattle.range_set.specs.Stored.{HasSet, IsInGap, Joins, begins_at, insertion, range_key, with_neighbours}
use Rattle.range_set.specs.Told.{insertion_in, stored_in}
use Rattle.range_set.proofs.RangesTold.{set_told}
use Rattle.metadata.specs.declared.index.IndexDefinition.{IndexDefinition}
use Rattle.metadata.specs.declared.index.State.TheVariants as declared
use Rattle.metadata.specs.Record.{Record}
use Rattle.index_maint.specs.Kept.{build_writes, records_within}
use Rattle.index_maint.specs.Layout.{entries_prefix}
use Rattle.index_maint.proofs.KeptLaw.{build_within, kept_built}
use Rattle.index_maint.proofs.Places.{indexes_apart, parts_apart}
use Rattle.index_maint.proofs.Several.{AreApart}
use Rattle.record_store.specs.Building.{built_writes}
use Rattle.record_store.specs.Holds.{HasPairs, HasPositions, Holds}
use Rattle.record_store.specs.Layout.{built_place, place, schema_key, state_pair}
use Rattle.record_store.specs.Store.{WriteOnly, Store, built, built_of, listed_by, state_by, state_of}
use Rattle.record_store.proofs.Kept.{HasIndex, clear_leaves, itself, kept_index, kept_range, kept_records, lawful_so, not_entry, not_range, set_held, set_leaves, write_only_is}
use Rattle.record_store.proofs.Listed.{contained_low, of_contained, put_itself, put_other, schema_apart}

-- ---- lists of indexes

-- what holds of an index that is there, and of the others, holds of all
all_others : (P Q : IndexDefinition → Type 0) (number : ℕ) (indexes : List IndexDefinition) → AreApart indexes → AllByRecursion (λ (i : IndexDefinition). number ≡ i.number → ⊥) indexes → AllByRecursion P indexes →
    ((i : IndexDefinition) → i.number < 2 ^ 64 → (i.number ≡ number → ⊥) → P i → Q i) → AllByRecursion Q indexes
all_others P Q number [] apart differ all other = tt
all_others P Q number (i ∷ indexes) apart differ all other = (other i apart.0 (λ same. differ.0 (sym same)) all.0, all_others P Q number indexes apart.2 differ.1 all.1 other)

all_with_one : (P Q : IndexDefinition → Type 0) (indexes : List IndexDefinition) (index : IndexDefinition) (k : ℕ) → k < length indexes → get_or indexes k index ≡ index → AreApart indexes → AllByRecursion P indexes →
    ((i : IndexDefinition) → i.number < 2 ^ 64 → (i.number ≡ index.number → ⊥) → P i → Q i) → Q index → AllByRecursion Q indexes
all_with_one P Q [] index k within is apart all other own = tt
all_with_one P Q (i ∷ indexes) index zero within is apart all other own = (
  subst Q (sym is) own,
  all_others P Q index.number indexes apart.2 (subst (λ (j : IndexDefinition). AllByRecursion (λ (later : IndexDefinition). j.number ≡ later.number → ⊥) indexes) is apart.1) all.1 other,
)
all_with_one P Q (i ∷ indexes) index (suc k) within is apart all other own = (
  other i apart.0 (of_contained (λ (later : IndexDefinition). i.number ≡ later.number → ⊥) indexes index k (omega (arith, within)) is apart.1) all.0,
  all_with_one P Q indexes index k (omega (arith, within)) is apart.2 all.1 other own,
)

-- ---- built positions

-- the range is built of its index, and of each other one is built what was
pub built_itself : (store : Store) (number : ℕ) (range : KeyRange) → (built store number range).status number ≡ WriteOnly (range ∷ built_of store number)
built_itself store number range = put_itself number (WriteOnly (range ∷ built_of store number)) store.status number refl

-- the states stay
states_stay : (store : Store) (number : ℕ) (range : KeyRange) → state_of store number ≡ declared.WriteOnly → state_of (built store number range) ≡ state_of store
states_stay store number range building = λ j n. by_test (n == number) n refl j
  where
    by_test : (b : Bool) (n : ℕ) → (n == number) ≡ b → state_by (cond b (WriteOnly (range ∷ built_of store number)) (store.status n)) ≡ state_of store n
    by_test true n is = sym building ∙ ap (state_of store) (sym (eqb-true n number is))
    by_test false n is = refl

-- ---- an insertion

-- it is put, and one is taken out, at keys of the place alone
insertion_leaves : (at : List ℕ) (ranges : List KeyRange) (range : KeyRange) (n : Map) (key : List ℕ) → (BeginsWith at key → ⊥) → get (after_all (insertion at ranges range) n) key ≡ get n key
insertion_leaves at ranges range n key apart_from =
    by_begins (begins_at ranges range.end) ∙ set_leaves n (range_key at (with_neighbours ranges range).begin) (with_neighbours ranges range).end key (other (with_neighbours ranges range).begin)
  where
    other : (begin : List ℕ) → key ≡ range_key at begin → ⊥
    other begin same = apart_from (subst (BeginsWith at) (sym same) (spelling (bytes begin ∷ []), refl))

    put : Map
    put = after (Set (range_key at (with_neighbours ranges range).begin) (with_neighbours ranges range).end) n

    by_begins : (b : Bool) → get (after_all (cond b (ClearRange (point (range_key at range.end)) ∷ []) []) put) key ≡ get put key
    by_begins true = clear_leaves put (range_key at range.end) key (other range.end)
    by_begins false = refl

-- ---- a step

module _ (prefix : List ℕ) (m : Map) (store : Store) (index : IndexDefinition) (there : Contains store.schema.indexes index) (holds : Holds prefix m (Some store)) where
  -- BUILD: with what the records of a range in a gap define put, and the range inserted beside those that the map has, the map holds the store where the range is built too
  pub built_holds : (range : KeyRange) → state_of store index.number ≡ declared.WriteOnly → IsInGap range (built_of store index.number) →
      ((n : Map) → stored_in (built_place prefix index.number) n ≡ stored_in (built_place prefix index.number) m → Joins (built_place prefix index.number) range n (after_all (insertion_in (built_place prefix index.number) m range) n)) →
      Holds prefix (after_all (built_writes prefix index range m store.records) m) (Some (built store index.number range))
  built_holds range building gap joins =
      subst (λ n. Holds prefix n (Some (built store index.number range))) (sym (after_all-append written (insertion_in (built_place prefix index.number) m range) m)) (record {
        lawful = lawful_so store store.schema (built store index.number range).status holds.lawful.schema holds.lawful.typed holds.lawful;
        schema =
            leaves (schema_key prefix) (not_entry prefix index.number 0 [] (schema_key prefix) refl (itself (schema_key prefix))) (not_range prefix index.number 0 [] (schema_key prefix) refl (itself (schema_key prefix)))
            ∙ holds.schema;
        records =
            kept_records prefix store.records m last
            (λ bytes.
            let at = place prefix 1 ++ bytes in
            leaves at (not_entry prefix index.number 1 [] at refl (bytes, refl)) (not_range prefix index.number 1 [] at refl (bytes, refl))) holds.records;
        entries =
            all_with_one (λ (i : IndexDefinition). HasIndex prefix store.records m i (store.status i.number)) (λ (i : IndexDefinition). HasIndex prefix store.records last i ((built store index.number range).status i.number)) store.schema.indexes index
            there.0 there.1 there.2 apart holds.entries other_entries own_entries;
        states = λ bytes.
            let at = place prefix 5 ++ bytes in
            leaves at (not_entry prefix index.number 5 [] at refl (bytes, refl)) (not_range prefix index.number 5 [] at refl (bytes, refl))
            ∙ subst (λ f. HasPairs (place prefix 5) (map (state_pair prefix) (listed_by store.schema.indexes f)) m) (sym (states_stay store index.number range building)) holds.states bytes;
        ranges =
            all_with_one (λ (i : IndexDefinition). HasPositions prefix i.number m (store.status i.number)) (λ (i : IndexDefinition). HasPositions prefix i.number last ((built store index.number range).status i.number)) store.schema.indexes index
            there.0 there.1 there.2 apart holds.ranges other_ranges own_ranges;
        nothing_else = λ at under elsewhere.
            leaves at (of_contained (λ (i : IndexDefinition). BeginsWith (entries_prefix prefix i.number) at → ⊥) store.schema.indexes index there.0 there.1 there.2 elsewhere.entries)
            (of_contained (λ (i : IndexDefinition). BeginsWith (built_place prefix i.number) at → ⊥) store.schema.indexes index there.0 there.1 there.2 elsewhere.ranges)
            ∙ holds.nothing_else at under elsewhere;
      })
    where
      apart : AreApart store.schema.indexes
      apart = schema_apart store.schema holds.lawful.schema

      low : index.number < 2 ^ 64
      low = contained_low store.schema.indexes index apart there

      some : List Record
      some = records_within range index store.records

      written : List Mutation
      written = build_writes prefix index some

      first : Map
      first = after_all written m

      last : Map
      last = after_all (insertion_in (built_place prefix index.number) m range) first

      put_leaves : (at : List ℕ) → (BeginsWith (built_place prefix index.number) at → ⊥) → get last at ≡ get first at
      put_leaves at apart_from = insertion_leaves (built_place prefix index.number) (unwrap_or (stored_in (built_place prefix index.number) m) []) range first at apart_from

      leaves : (at : List ℕ) → (BeginsWith (entries_prefix prefix index.number) at → ⊥) → (BeginsWith (built_place prefix index.number) at → ⊥) → get last at ≡ get m at
      leaves at entry apart_from = put_leaves at apart_from ∙ build_within prefix index some m at entry

      -- the status of each other index is what it was, and its own was write-only
      as_before : (i : IndexDefinition) → (i.number ≡ index.number → ⊥) → (built store index.number range).status i.number ≡ store.status i.number
      as_before i differ = put_other index.number (WriteOnly (range ∷ built_of store index.number)) store.status i.number differ

      was_building : store.status index.number ≡ WriteOnly (built_of store index.number)
      was_building = write_only_is (store.status index.number) building

      other_entries : (i : IndexDefinition) → i.number < 2 ^ 64 → (i.number ≡ index.number → ⊥) → HasIndex prefix store.records m i (store.status i.number) → HasIndex prefix store.records last i ((built store index.number range).status i.number)
      other_entries i small differ has =
          subst (HasIndex prefix store.records last i) (sym (as_before i differ))
          (kept_index prefix store.records m last i (store.status i.number)
          (λ more.
          let at = entries_prefix prefix i.number ++ more in
          leaves at (λ begins. differ (indexes_apart prefix at i.number index.number small low (more, refl) begins)) (not_range prefix index.number 2 (int (pos i.number) ∷ []) at refl (more, refl))) has)

      own_entries : HasIndex prefix store.records last index ((built store index.number range).status index.number)
      own_entries =
          subst (HasIndex prefix store.records last index) (sym (built_itself store index.number range))
          (kept_index prefix store.records first last index (WriteOnly (range ∷ built_of store index.number))
          (λ more. put_leaves (entries_prefix prefix index.number ++ more) (not_range prefix index.number 2 (int (pos index.number) ∷ []) (entries_prefix prefix index.number ++ more) refl (more, refl)))
          (kept_built prefix index range (built_of store index.number) store.records m gap holds.lawful.storable
          (subst (HasIndex prefix store.records m index) was_building
          (of_contained (λ (i : IndexDefinition). HasIndex prefix store.records m i (store.status i.number)) store.schema.indexes index there.0 there.1 there.2 holds.entries))))

      other_ranges : (i : IndexDefinition) → i.number < 2 ^ 64 → (i.number ≡ index.number → ⊥) → HasPositions prefix i.number m (store.status i.number) → HasPositions prefix i.number last ((built store index.number range).status i.number)
      other_ranges i small differ has =
          subst (HasPositions prefix i.number last) (sym (as_before i differ))
          (kept_range prefix i.number m last (store.status i.number)
          (λ more.
          let at = built_place prefix i.number ++ more in
          leaves at (not_entry prefix index.number 6 (int (pos i.number) ∷ []) at refl (more, refl))
          (λ begins. differ (parts_apart prefix at (int (pos 6)) i.number index.number [] [] small low (more, refl) begins))) has)

      -- the ranges that are there before the records' entries are put, and are there still
      set_before : HasSet (built_place prefix index.number) (built_of store index.number) m
      set_before =
          set_held prefix index.number m (store.status index.number) building
          (of_contained (λ (i : IndexDefinition). HasPositions prefix i.number m (store.status i.number)) store.schema.indexes index there.0 there.1 there.2 holds.ranges)

      set_behind : HasSet (built_place prefix index.number) (built_of store index.number) first
      set_behind = record {
        ranges = set_before.ranges;
        stored = set_before.stored;
        has = λ more.
            let at = built_place prefix index.number ++ more in
            build_within prefix index some m at (not_entry prefix index.number 6 (int (pos index.number) ∷ []) at refl (more, refl)) ∙ set_before.has more;
        same = set_before.same;
      }

      still_stored : stored_in (built_place prefix index.number) first ≡ stored_in (built_place prefix index.number) m
      still_stored = set_told (built_place prefix index.number) (built_of store index.number) first set_behind ∙ sym (set_told (built_place prefix index.number) (built_of store index.number) m set_before)

      own_ranges : HasPositions prefix index.number last ((built store index.number range).status index.number)
      own_ranges = subst (HasPositions prefix index.number last) (sym (built_itself store index.number range)) (joins first still_stored (built_of store index.number) gap set_behind)
