-- What a change of a store leaves: keys of other places, and what is had there.
use Rattle.std.proofs.Common.{◌≡◌, ℕ, true, not, ◌&&◌, ◌==◌, cond, arith, List, [], ◌∷◌, ◌++◌, refl, sym, ap, subst, ◌∙◌, Some, None, append-nil, append_assoc, pos}
use Rattle.std.proofs.lemmas.Bool.{and_parts, eqb-false, false_from_ne_true, ltb-true, not-true}
use Rattle.std.proofs.lemmas.Cmp.{nat_list_cmp_total, tied_itself}
use Rattle.std.specs.Prelude.{nat_lt}
use Rattle.std.specs.List.{AllByRecursion}
use Rattle.std.specs.FinMap.{get}
use Rattle.std.specs.Ordering.{is_eq}
use Rattle.tuple_codec.specs.Item.{Item, int}
use Rattle.tuple_codec.specs.Spelling.{int_spelling, spelling}
use Rattle.tuple_codec.specs.Subspace.{BeginsWith, subspace_key}
use Rattle.kv_core.specs.Bytes.{key_cmp}
use Rattle.kv_core.specs.Map.{Map, after}
use Rattle.kv_core.specs.Range.{point}
use Rattle.kv_core.specs.declared.change.Mutation.TheVariants.{Set, ClearRange}
use Rattle.kv_core.proofs.Changes.{get-after, get-after-value, get-set}
use Rattle.kv_core.proofs.Order.{contains-point, tied_keys}
use Rattle.kv_core.proofs.Pairs.{contains-point-is}
use Rattle.metadata.specs.declared.index.IndexDefinition.{IndexDefinition}
use Rattle.metadata.specs.declared.index.State.TheVariants as declared
use Rattle.metadata.specs.Lawful.{IsLawfulSchema}
use Rattle.metadata.specs.Record.{Record, primary_key}
use Rattle.metadata.specs.Schema.{Schema}
use Rattle.range_set.specs.Stored.{HasSet}
use Rattle.index_maint.specs.Kept.{HasKept}
use Rattle.index_maint.specs.Layout.{entries_prefix}
use Rattle.index_maint.proofs.KeptLaw.{kept_within}
use Rattle.index_maint.proofs.Places.{begins_before, entries_elsewhere, places_apart, places_differ}
use Rattle.record_store.specs.Store.{Store, Status, Readable, WriteOnly, Disabled, built_by, state_by}
use Rattle.record_store.specs.Layout.{built_place, place, record_key, schema_key, state_key}
use Rattle.record_store.specs.Holds.{HasPositions, HasRecord, HasRecords, Holds, IsLawful, IsNoEntry, IsNoRange, IsOfSchema}
use Rattle.record_store.proofs.Keys.{record_key_is}

-- a store is lawful with another schema of its records, and with another status of its indexes
pub lawful_so : (store : Store) (schema : Schema) (status : ℕ → Status) → IsLawfulSchema schema → AllByRecursion (IsOfSchema schema) store.records → IsLawful store → IsLawful (record store { schema = schema; status = status })
lawful_so store schema status made typed lawful = record { schema = made; typed = typed; ordered = lawful.ordered; storable = lawful.storable }

-- what a map has of an index, by its status
abbrev pub HasIndex : List ℕ → List Record → Map → IndexDefinition → Status → Type 0
HasIndex prefix records m index status = HasKept (state_by status) prefix index (built_by status) records m

-- ---- one key

-- a put leaves each other key, and so does a clearance of one key
pub set_leaves : (m : Map) (key value at : List ℕ) → (at ≡ key → ⊥) → get (after (Set key value) m) at ≡ get m at
set_leaves m key value at other =
    get-set m key value at ∙ ap (λ b. cond b (Some value) (get m at)) (false_from_ne_true (is_eq (key_cmp at key)) (λ same. other (tied_keys at key same)))

pub set_there : (m : Map) (key value : List ℕ) → get (after (Set key value) m) key ≡ Some value
set_there m key value = get-set m key value key ∙ ap (λ o. cond (is_eq o) (Some value) (get m key)) (tied_itself nat_list_cmp_total key)

pub clear_leaves : (m : Map) (key at : List ℕ) → (at ≡ key → ⊥) → get (after (ClearRange (point key)) m) at ≡ get m at
clear_leaves m key at other =
    get-after (ClearRange (point key)) m at (contains-point-is key at ∙ false_from_ne_true (is_eq (key_cmp key at)) (λ same. other (sym (tied_keys key at same))))

pub clear_there : (m : Map) (key : List ℕ) → get (after (ClearRange (point key)) m) key ≡ None
clear_there m key =
    get-after-value (ClearRange (point key)) m key ∙ ap (λ b. cond b None (get m key)) (contains-point key)

pub itself : (key : List ℕ) → BeginsWith key key
itself key = ([], sym (append-nil key))

-- ---- places

module _ (prefix : List ℕ) where
  -- a key under one number isn't one under another
  pub other_place : (p : ℕ) (ps : List Item) (n : ℕ) (ns : List Item) (at : List ℕ) → (nat_lt p 7 && (nat_lt n 7 && not (n == p))) ≡ true → BeginsWith (subspace_key prefix (int (pos n) ∷ ns)) at →
      at ≡ subspace_key prefix (int (pos p) ∷ ps) → ⊥
  other_place p ps n ns at differ there same =
      let one = and_parts (nat_lt p 7) (nat_lt n 7 && not (n == p)) differ in
      let two = and_parts (nat_lt n 7) (not (n == p)) one.1 in
      let low = ltb-true p 7 one.0 in
      let high = ltb-true n 7 two.0 in
      places_differ prefix at (subspace_key prefix (int (pos p) ∷ ps)) n p ns ps (omega (arith, high)) (omega (arith, low)) (eqb-false n p (not-true (n == p) two.1)) there (itself (subspace_key prefix (int (pos p) ∷ ps))) same

  -- a key under another number than 2 is that of no entry
  pub not_entry : (i n : ℕ) (ns : List Item) (key : List ℕ) → (nat_lt n 7 && not (n == 2)) ≡ true → BeginsWith (subspace_key prefix (int (pos n) ∷ ns)) key → BeginsWith (entries_prefix prefix i) key → ⊥
  not_entry i n ns key other there entry =
      let parts = and_parts (nat_lt n 7) (not (n == 2)) other in
      let low = ltb-true n 7 parts.0 in
      entries_elsewhere prefix key i n ns (omega (arith, low)) (eqb-false n 2 (not-true (n == 2) parts.1)) entry there

  pub no_entry_at : (n : ℕ) (ns : List Item) (indexes : List IndexDefinition) (key : List ℕ) → (nat_lt n 7 && not (n == 2)) ≡ true → BeginsWith (subspace_key prefix (int (pos n) ∷ ns)) key → IsNoEntry prefix indexes key
  no_entry_at n ns [] key other there = tt
  no_entry_at n ns (index ∷ indexes) key other there = (not_entry index.number n ns key other there, no_entry_at n ns indexes key other there)

  pub no_entry_schema : (indexes : List IndexDefinition) → IsNoEntry prefix indexes (schema_key prefix)
  no_entry_schema indexes = no_entry_at 0 [] indexes (schema_key prefix) refl (itself (schema_key prefix))

  pub no_entry_in : (n : ℕ) (indexes : List IndexDefinition) (bytes : List ℕ) → (nat_lt n 7 && not (n == 2)) ≡ true → IsNoEntry prefix indexes (place prefix n ++ bytes)
  no_entry_in n indexes bytes other = no_entry_at n [] indexes (place prefix n ++ bytes) other (bytes, refl)

  -- a key under another number than 6 is that of no built range
  pub not_range : (i n : ℕ) (ns : List Item) (key : List ℕ) → (nat_lt n 7 && not (n == 6)) ≡ true → BeginsWith (subspace_key prefix (int (pos n) ∷ ns)) key → BeginsWith (built_place prefix i) key → ⊥
  not_range i n ns key other there range =
      let parts = and_parts (nat_lt n 7) (not (n == 6)) other in
      let low = ltb-true n 7 parts.0 in
      eqb-false n 6 (not-true (n == 6) parts.1) (sym (places_apart prefix key 6 n (int (pos i) ∷ []) ns (omega arith) (omega (arith, low)) range there))

  pub no_range_at : (n : ℕ) (ns : List Item) (indexes : List IndexDefinition) (key : List ℕ) → (nat_lt n 7 && not (n == 6)) ≡ true → BeginsWith (subspace_key prefix (int (pos n) ∷ ns)) key → IsNoRange prefix indexes key
  no_range_at n ns [] key other there = tt
  no_range_at n ns (index ∷ indexes) key other there = (not_range index.number n ns key other there, no_range_at n ns indexes key other there)

  -- a state's key is in the place of states
  pub state_key_is : (number : ℕ) → place prefix 5 ++ spelling (int (pos number) ∷ []) ≡ state_key prefix number
  state_key_is number =
      let rest = spelling (int (pos number) ∷ []) in
      append_assoc prefix (spelling (int (pos 5) ∷ [])) rest ∙ ap (λ s. prefix ++ s) (append_assoc (int_spelling (pos 5)) [] rest)

  pub state_in_place : (number : ℕ) (at : List ℕ) → at ≡ state_key prefix number → BeginsWith (place prefix 5) at
  state_in_place number at same = (spelling (int (pos number) ∷ []), same ∙ sym (state_key_is number))

  -- a record's key is in the place of records
  pub record_in_place : (key : List Item) (at : List ℕ) → at ≡ record_key prefix key → BeginsWith (place prefix 1) at
  record_in_place key at same = (spelling key, same ∙ sym (record_key_is prefix key))

  pub nothing_at : (m : Map) (begin bytes : List ℕ) → Holds prefix m None → get m ((prefix ++ begin) ++ bytes) ≡ None
  nothing_at m begin bytes holds = let at = begins_before prefix begin ((prefix ++ begin) ++ bytes) (bytes, refl) in ap (get m) at.1 ∙ holds at.0

  -- ---- records

  -- records that a map has another one has where it is the same in their place
  pub each_kept : (records : List Record) (m n : Map) → ((bytes : List ℕ) → get n (place prefix 1 ++ bytes) ≡ get m (place prefix 1 ++ bytes)) → AllByRecursion (HasRecord prefix m) records → AllByRecursion (HasRecord prefix n) records
  each_kept [] m n same each = tt
  each_kept (r ∷ records) m n same each =
      let first = each.0 in (
        record {
          stored = first.stored;
          has = subst (λ k. get n k ≡ get m k) (record_key_is prefix (primary_key r)) (same (spelling (primary_key r))) ∙ first.has;
          fills = first.fills;
        },
        each_kept records m n same each.1,
      )

  pub kept_records : (records : List Record) (m n : Map) → ((bytes : List ℕ) → get n (place prefix 1 ++ bytes) ≡ get m (place prefix 1 ++ bytes)) → HasRecords prefix records m → HasRecords prefix records n
  kept_records records m n same has = record {
    each = each_kept records m n same has.each;
    no_others = λ bytes none. same bytes ∙ has.no_others bytes none;
  }

  -- ---- indexes

  -- what a map has of an index it has where it is the same at the index's keys
  pub kept_index : (records : List Record) (m n : Map) (index : IndexDefinition) (status : Status) →
      ((bytes : List ℕ) → get n (entries_prefix prefix index.number ++ bytes) ≡ get m (entries_prefix prefix index.number ++ bytes)) → HasIndex prefix records m index status → HasIndex prefix records n index status
  kept_index records m n index status same has = kept_within (state_by status) prefix index (built_by status) records m n (λ bytes. sym (same bytes)) has

  pub kept_indexes : (records : List Record) (status : ℕ → Status) (m n : Map) (indexes : List IndexDefinition) →
      ((number : ℕ) (bytes : List ℕ) → get n (entries_prefix prefix number ++ bytes) ≡ get m (entries_prefix prefix number ++ bytes)) →
      AllByRecursion (λ index. HasIndex prefix records m index (status index.number)) indexes → AllByRecursion (λ index. HasIndex prefix records n index (status index.number)) indexes
  kept_indexes records status m n [] same all = tt
  kept_indexes records status m n (index ∷ indexes) same all = (kept_index records m n index (status index.number) (same index.number) all.0, kept_indexes records status m n indexes same all.1)

  -- what a map has of an index's built positions it has where it is the same at their keys
  pub kept_range : (number : ℕ) (m n : Map) (status : Status) →
      ((bytes : List ℕ) → get n (built_place prefix number ++ bytes) ≡ get m (built_place prefix number ++ bytes)) → HasPositions prefix number m status → HasPositions prefix number n status
  kept_range number m n Readable same has = λ bytes. same bytes ∙ has bytes
  kept_range number m n Disabled same has = λ bytes. same bytes ∙ has bytes
  kept_range number m n (WriteOnly built) same has = record { ranges = has.ranges; stored = has.stored; has = λ rest. same rest ∙ has.has rest; same = has.same }

  pub kept_ranges : (status : ℕ → Status) (m n : Map) (indexes : List IndexDefinition) →
      ((number : ℕ) (bytes : List ℕ) → get n (built_place prefix number ++ bytes) ≡ get m (built_place prefix number ++ bytes)) →
      AllByRecursion (λ index. HasPositions prefix index.number m (status index.number)) indexes → AllByRecursion (λ index. HasPositions prefix index.number n (status index.number)) indexes
  kept_ranges status m n [] same all = tt
  kept_ranges status m n (index ∷ indexes) same all = (kept_range index.number m n (status index.number) (same index.number) all.0, kept_ranges status m n indexes same all.1)

-- of a write-only index it has the set of the built positions
pub write_only_is : (status : Status) → state_by status ≡ declared.WriteOnly → status ≡ WriteOnly (built_by status)
write_only_is Readable building = absurd (cc)
write_only_is Disabled building = absurd (cc)
write_only_is (WriteOnly built) building = refl

pub set_held : (prefix : List ℕ) (number : ℕ) (m : Map) (status : Status) → state_by status ≡ declared.WriteOnly → HasPositions prefix number m status → HasSet (built_place prefix number) (built_by status) m
set_held prefix number m status building has = subst (HasPositions prefix number m) (write_only_is status building) has
