-- What a command writes lies in its reach.
use Rattle.std.proofs.Common.{◌≡◌, ◌+◌, ◌⊎◌, inl, inr, ℕ, zero, suc, Bool, true, false, cond, ◌==◌, List, [], ◌∷◌, ◌++◌, Option, Some, None, Result, Ok, Err, refl, sym, ap, subst, ◌∙◌, length, arith, append-nil}
use Rattle.std.specs.Prelude.{Contains, filter}
use Rattle.std.specs.List.{AllByRecursion}
use Rattle.std.proofs.lemmas.Bool.{eqb-true}
use Rattle.std.proofs.lemmas.List.Elements.{All-contains_itself, recursion_from_All}
use Rattle.std.proofs.lemmas.List.{length-append}
use Rattle.tuple_codec.specs.Item.{Item}
use Rattle.tuple_codec.specs.Subspace.{BeginsWith}
use Rattle.kv_core.specs.Map.{Map}
use Rattle.kv_core.specs.Range.{KeyRange, point}
use Rattle.kv_core.specs.declared.change.Mutation.{Mutation}
use Rattle.kv_core.specs.declared.change.Mutation.TheVariants.{Add, ClearRange}
use Rattle.metadata.specs.declared.index.IndexDefinition.{IndexDefinition}
use Rattle.metadata.specs.declared.index.IndexKind.{IndexKind}
use Rattle.metadata.specs.declared.index.IndexKind.TheVariants.{Value, Count, Sum}
use Rattle.metadata.specs.declared.index.State as index_state
use Rattle.metadata.specs.declared.index.State.TheVariants as state
use Rattle.metadata.specs.declared.refusal.Refusal.{Refusal}
use Rattle.metadata.specs.Asked.{schema_asked}
use Rattle.metadata.specs.Change.{add_field, add_type}
use Rattle.metadata.specs.Entries.{IndexEntry}
use Rattle.metadata.specs.IndexChange.{new_index}
use Rattle.metadata.specs.Layout.{entries_prefix, entry_key, record_key}
use Rattle.metadata.specs.Record.{Record, key_of, primary_key, record_of}
use Rattle.metadata.specs.Records.{has_primary_key, of_type, record_at}
use Rattle.metadata.specs.Schema.{Schema, find_index}
use Rattle.index_maint.specs.Changes.{clear_entry, entry_changes, set_entry}
use Rattle.index_maint.specs.Entries.{entry_of, same_entry}
use Rattle.index_maint.specs.Kept.{build_writes, changes_by, kept_writes, part_changes_by, records_within}
use Rattle.index_maint.specs.Layout.{built_place}
use Rattle.index_maint.specs.Totals.{Part, add_amount, clear_zero, count_clears, count_share, difference, group_key, part_changes, part_of, same_group, sum_clears, sum_share, take_amount}
use Rattle.index_maint.proofs.Replaced.{tied_tuples}
use Rattle.range_set.specs.Stored.{begins_at, insertion, range_key}
use Rattle.range_set.specs.Told.{insertion_in}
use Rattle.record_store.specs.declared.error.StoreError.{StoreError}
use Rattle.record_store.specs.BuiltReading.{type_number_in}
use Rattle.record_store.specs.Building.{gap_of}
use Rattle.record_store.specs.Call.{Footprint}
use Rattle.record_store.specs.IndexWrites.{clear_kept, drop_writes, index_writes, is_built, marked_writes, readable_writes, remove_writes, save_writes, state_writes}
use Rattle.record_store.specs.Calls.{drop_footprint, index_footprint, load_footprint, mark_footprint, readable_footprint, remove_footprint, save_footprint, total_footprint, type_footprint}
use Rattle.record_store.specs.Layout.{built_range, entries_range, schema_key, state_key, store_prefix}
use Rattle.record_store.specs.Meaning.{by_schema, in_write_only, index_number, totalled_index, write_only_found, write_only_named}
use Rattle.record_store.specs.Store.{Serial, Store, new_state, state_of}
use Rattle.record_store.proofs.EntryRanges.{range_begins}
use Rattle.record_store.proofs.Held.{under}
use Rattle.index_maint.specs.Parts.{first_part}
use Rattle.online_builder.specs.Stepping.{step_footprint, step_writes}
use Rattle.schedule.specs.declared.step.Command.{Command}
use Rattle.schedule.specs.declared.step.Command.TheVariants as commands
use Rattle.schedule.specs.declared.step.Command.TheVariants.{Create, «Type», Save, Load, Remove, Query, Plan, Execute, Index, Drop, Disable, WriteOnly, Readable, Build, State, Aggregate}
use Rattle.schedule.specs.Query.{opened_as}
use Rattle.schedule.specs.Serve as serve
use Rattle.schedule.specs.Serve.{serial_line}
use Rattle.schedule.specs.Keys.{IsOfBuilt, IsOfEntries, IsOfType, IsOfIndexes, MayWriteEmptying, MayWriteIn, MayWriteKey, MayWriteMarking, MayWriteWriting}
use Rattle.schedule.specs.Reach.{footprint_in, footprint_on, footprint_writes, schema_written, writes, written_with}
use Rattle.schedule.proofs.Written.{WriteOnlySuch, WritesOnly, clears_point, each_append, each_flat, one_longer, wider}

-- ---- what indexes want written

entry_such : (prefix : List ℕ) (number : ℕ) (old new : Option IndexEntry) → WriteOnlySuch (IsOfEntries prefix number) (entry_changes prefix number old new)
entry_such prefix number None None = tt
entry_such prefix number None (Some new) = ((_, refl), tt)
entry_such prefix number (Some old) None = (clears_point (IsOfEntries prefix number) (entry_key prefix number old) (_, refl), tt)
entry_such prefix number (Some old) (Some new) = by_test (same_entry old new)
  where
    by_test : (b : Bool) → WriteOnlySuch (IsOfEntries prefix number) (cond b [] (clear_entry prefix number old ∷ set_entry prefix number new ∷ []))
    by_test true = tt
    by_test false = (clears_point (IsOfEntries prefix number) (entry_key prefix number old) (_, refl), ((_, refl), tt))

amount_such : (prefix : List ℕ) (number : ℕ) (group : List Rattle.metadata.specs.declared.cells.Cell.Cell) (amount : ℕ) → WriteOnlySuch (IsOfEntries prefix number) (add_amount prefix number group amount)
amount_such prefix number group amount = by_test (amount == 0)
  where
    by_test : (b : Bool) → WriteOnlySuch (IsOfEntries prefix number) (cond b [] (Add (group_key prefix number group) (Rattle.kv_core.specs.Addition.bytes_of 8 amount) ∷ []))
    by_test true = tt
    by_test false = ((_, refl), tt)

taken_such : (prefix : List ℕ) (clears : Bool) (number : ℕ) (group : List Rattle.metadata.specs.declared.cells.Cell.Cell) (amount : ℕ) → WriteOnlySuch (IsOfEntries prefix number) (take_amount clears prefix number group amount)
taken_such prefix clears number group amount =
    each_append (WritesOnly (IsOfEntries prefix number)) (add_amount prefix number group (difference amount 0)) (cond clears (clear_zero prefix number group) []) (amount_such prefix number group (difference amount 0)) (by_clears clears)
  where
    by_clears : (b : Bool) → WriteOnlySuch (IsOfEntries prefix number) (cond b (clear_zero prefix number group) [])
    by_clears true = ((_, refl), tt)
    by_clears false = tt

part_such : (prefix : List ℕ) (clears : Bool) (number : ℕ) (old new : Option Part) → WriteOnlySuch (IsOfEntries prefix number) (part_changes clears prefix number old new)
part_such prefix clears number None None = tt
part_such prefix clears number None (Some new) = amount_such prefix number new.group (difference 0 new.amount)
part_such prefix clears number (Some old) None = taken_such prefix clears number old.group old.amount
part_such prefix clears number (Some old) (Some new) = by_test (same_group old.group new.group)
  where
    by_test : (b : Bool) → WriteOnlySuch (IsOfEntries prefix number) (cond b (add_amount prefix number new.group (difference old.amount new.amount))
        (take_amount clears prefix number old.group old.amount ++ add_amount prefix number new.group (difference 0 new.amount)))
    by_test true = amount_such prefix number new.group (difference old.amount new.amount)
    by_test false =
        each_append (WritesOnly (IsOfEntries prefix number)) (take_amount clears prefix number old.group old.amount) (add_amount prefix number new.group (difference 0 new.amount))
        (taken_such prefix clears number old.group old.amount) (amount_such prefix number new.group (difference 0 new.amount))

changes_such : (prefix : List ℕ) (kind : IndexKind) (index : IndexDefinition) (old new : Option Record) → WriteOnlySuch (IsOfEntries prefix index.number) (changes_by kind prefix index old new)
changes_such prefix Value index old new = entry_such prefix index.number (Rattle.std.specs.Option.option_map (entry_of index) old) (Rattle.std.specs.Option.option_map (entry_of index) new)
changes_such prefix Count index old new = part_such prefix (count_clears index) index.number (Rattle.std.specs.Option.option_map (part_of count_share index) old) (Rattle.std.specs.Option.option_map (part_of count_share index) new)
changes_such prefix Sum index old new = part_such prefix (sum_clears index) index.number (Rattle.std.specs.Option.option_map (part_of sum_share index) old) (Rattle.std.specs.Option.option_map (part_of sum_share index) new)

part_by_such : (prefix : List ℕ) (kind : IndexKind) (index : IndexDefinition) (at_built : Bool) (old new : Option Record) → WriteOnlySuch (IsOfEntries prefix index.number) (part_changes_by kind prefix index at_built old new)
part_by_such prefix Value index at_built old new = changes_such prefix Value index old new
part_by_such prefix Count index true old new = changes_such prefix Count index old new
part_by_such prefix Count index false old new = tt
part_by_such prefix Sum index true old new = changes_such prefix Sum index old new
part_by_such prefix Sum index false old new = tt

-- of an index of the store's that isn't disabled
kept_such : (prefix : List ℕ) (store : Store) (number : ℕ) (index : IndexDefinition) (now : index_state.State) (at_built : Bool) (old new : Option Record) → Contains store.schema.indexes index → index.type_number ≡ number → state_of store index.number ≡ now →
    WriteOnlySuch (IsOfIndexes store (IsOfType number) (λ s. s ≡ state.Disabled → ⊥) (IsOfEntries prefix)) (kept_writes now prefix index at_built old new)
kept_such prefix store number index state.Disabled at_built old new there over is = tt
kept_such prefix store number index state.Readable at_built old new there over is =
    wider (IsOfEntries prefix index.number) (IsOfIndexes store (IsOfType number) (λ s. s ≡ state.Disabled → ⊥) (IsOfEntries prefix))
    (λ key of. record { index = index; there = there; such = over; state = λ no. let bad : state.Readable ≡ state.Disabled = sym is ∙ no in cc; of = of }) (changes_by index.kind prefix index old new) (changes_such prefix index.kind index old new)
kept_such prefix store number index state.WriteOnly at_built old new there over is =
    wider (IsOfEntries prefix index.number) (IsOfIndexes store (IsOfType number) (λ s. s ≡ state.Disabled → ⊥) (IsOfEntries prefix))
    (λ key of. record { index = index; there = there; such = over; state = λ no. let bad : state.WriteOnly ≡ state.Disabled = sym is ∙ no in cc; of = of }) (part_changes_by index.kind prefix index at_built old new) (part_by_such prefix index.kind index at_built old new)

-- the indexes of a type, among those of the store
over_type : (store : Store) (number : ℕ) (indexes : List IndexDefinition) → AllByRecursion (Contains store.schema.indexes) indexes →
    AllByRecursion (λ (index : IndexDefinition). Contains store.schema.indexes index × IsOfType number index) (filter (λ index. index.type_number == number) indexes)
over_type store number [] all = tt
over_type store number (index ∷ indexes) all = by_test (over_type store number indexes all.1) (index.type_number == number) refl
  where
    by_test : AllByRecursion (λ (one : IndexDefinition). Contains store.schema.indexes one × IsOfType number one) (filter (λ one. one.type_number == number) indexes) → (b : Bool) → (index.type_number == number) ≡ b →
        AllByRecursion (λ (one : IndexDefinition). Contains store.schema.indexes one × IsOfType number one) (cond b (index ∷ filter (λ one. one.type_number == number) indexes) (filter (λ one. one.type_number == number) indexes))
    by_test rest true is = ((all.0, eqb-true index.type_number number is), rest)
    by_test rest false is = rest

indexes_such : (prefix : List ℕ) (store : Store) (number : ℕ) (k : List Item) (old new : Option Record) → WriteOnlySuch (IsOfIndexes store (IsOfType number) (λ s. s ≡ state.Disabled → ⊥) (IsOfEntries prefix)) (index_writes prefix store number k old new)
indexes_such prefix store number k old new =
    each_flat (WritesOnly (IsOfIndexes store (IsOfType number) (λ s. s ≡ state.Disabled → ⊥) (IsOfEntries prefix))) (λ (index : IndexDefinition). Contains store.schema.indexes index × IsOfType number index)
    (λ index. kept_writes (state_of store index.number) prefix index (is_built store index.number k) old new) (filter (λ index. index.type_number == number) store.schema.indexes)
    (λ index is. kept_such prefix store number index (state_of store index.number) (is_built store index.number k) old new is.0 is.1 refl)
    (over_type store number store.schema.indexes (recursion_from_All (Contains store.schema.indexes) store.schema.indexes (All-contains_itself store.schema.indexes)))

-- ---- what a writer of a record writes

saved_such : (prefix : List ℕ) (store : Store) (r : Record) → WriteOnlySuch (MayWriteWriting prefix store (primary_key r)) (save_writes prefix store r)
saved_such prefix store r = (
  inl refl,
  wider (IsOfIndexes store (IsOfType r.definition.number) (λ s. s ≡ state.Disabled → ⊥) (IsOfEntries prefix)) (MayWriteWriting prefix store (primary_key r)) (λ key of. inr of)
      (index_writes prefix store r.definition.number (primary_key r) (record_at (primary_key r) store.records) (Some r))
      (indexes_such prefix store r.definition.number (primary_key r) (record_at (primary_key r) store.records) (Some r)),
)

-- the record that is found has the key
key_found : (k : List Item) (records : List Record) (old : Record) → record_at k records ≡ Some old → primary_key old ≡ k
key_found k [] old is = absurd (cc)
key_found k (r ∷ records) old is = by_test (key_found k records old) (has_primary_key k r) refl is
  where
    by_test : (record_at k records ≡ Some old → primary_key old ≡ k) → (b : Bool) → has_primary_key k r ≡ b → cond b (Some r) (record_at k records) ≡ Some old → primary_key old ≡ k
    by_test later true has said = let same : r ≡ old = cc in ap primary_key (sym same) ∙ tied_tuples (primary_key r) k has
    by_test later false has said = later said

removed_such : (prefix : List ℕ) (store : Store) (k : List Item) (found : Option Record) → record_at k store.records ≡ found → WriteOnlySuch (MayWriteWriting prefix store k) (remove_writes prefix store k found)
removed_such prefix store k None is = tt
removed_such prefix store k (Some old) is =
    let number : old.definition.number ≡ type_number_in k = ap type_number_in (key_found k store.records old is) in (
      clears_point (MayWriteWriting prefix store k) (record_key prefix k) (inl refl),
      wider (IsOfIndexes store (IsOfType old.definition.number) (λ s. s ≡ state.Disabled → ⊥) (IsOfEntries prefix)) (MayWriteWriting prefix store k)
          (λ key of. inr (subst (λ n. IsOfIndexes store (IsOfType n) (λ s. s ≡ state.Disabled → ⊥) (IsOfEntries prefix) key) number of))
          (index_writes prefix store old.definition.number k (Some old) None) (indexes_such prefix store old.definition.number k (Some old) None),
    )

-- ---- what is written of an index

begins_itself : (at : List ℕ) → BeginsWith at at
begins_itself at = ([], sym (append-nil at))

clears_entries : (prefix : List ℕ) (number : ℕ) → WritesOnly (IsOfEntries prefix number) (ClearRange (entries_range prefix number))
clears_entries prefix number = (begins_itself (entries_prefix prefix number), one_longer (entries_prefix prefix number) 255, range_begins prefix number)

clears_built : (prefix : List ℕ) (number : ℕ) → WritesOnly (IsOfBuilt prefix number) (ClearRange (built_range prefix number))
clears_built prefix number =
    let place = built_place prefix number in
    let a : length (place ++ 0 ∷ []) ≡ length place + 1 = length-append place (0 ∷ []) in
    let b : length (place ++ 255 ∷ []) ≡ length place + 1 = length-append place (255 ∷ []) in
    ((0 ∷ [], refl), omega (arith, a, b), λ key inside. under place (0 ∷ []) (255 ∷ []) key inside)

one_wider : (May Wide : List ℕ → Type 0) (mutation : Mutation) → ((key : List ℕ) → May key → Wide key) → WritesOnly May mutation → WritesOnly Wide mutation
one_wider May Wide mutation so one = (wider May Wide so (mutation ∷ []) (one, tt)).0

empties : (prefix : List ℕ) (number : ℕ) → WriteOnlySuch (MayWriteEmptying prefix number) (clear_kept prefix number)
empties prefix number = (
  one_wider (IsOfEntries prefix number) (MayWriteEmptying prefix number) (ClearRange (entries_range prefix number)) (λ key of. inr of) (clears_entries prefix number),
  (one_wider (IsOfBuilt prefix number) (MayWriteEmptying prefix number) (ClearRange (built_range prefix number)) (λ key of. inl (inr of)) (clears_built prefix number), tt),
)

marked_such : (prefix : List ℕ) (now : index_state.State) (number : ℕ) → WriteOnlySuch (MayWriteEmptying prefix number) (marked_writes now prefix number)
marked_such prefix now number = (inl (inl refl), empties prefix number)

readable_such : (prefix : List ℕ) (number : ℕ) → WriteOnlySuch (MayWriteMarking prefix number) (readable_writes prefix number)
readable_such prefix number = (
  clears_point (MayWriteMarking prefix number) (state_key prefix number) (inl refl),
  (one_wider (IsOfBuilt prefix number) (MayWriteMarking prefix number) (ClearRange (built_range prefix number)) (λ key of. inr of) (clears_built prefix number), tt),
)

dropped_such : (prefix : List ℕ) (store : Store) (number : ℕ) → WriteOnlySuch (λ key. (key ≡ schema_key prefix) ⊎ MayWriteEmptying prefix number key) (drop_writes prefix store number)
dropped_such prefix store number = (
  inl refl,
  (
    one_wider (IsOfEntries prefix number) May (ClearRange (entries_range prefix number)) (λ key of. inr (inr of)) (clears_entries prefix number),
    (
      one_wider (IsOfBuilt prefix number) May (ClearRange (built_range prefix number)) (λ key of. inr (inl (inr of))) (clears_built prefix number),
      (clears_point May (state_key prefix number) (inr (inl (inl refl))), tt),
    ),
  ),
)
  where
    May : List ℕ → Type 0
    May key = (key ≡ schema_key prefix) ⊎ MayWriteEmptying prefix number key

state_such : (prefix : List ℕ) (May : List ℕ → Type 0) (number : ℕ) (now : index_state.State) → May (state_key prefix number) → WriteOnlySuch May (state_writes prefix number now)
state_such prefix May number state.Readable may = tt
state_such prefix May number state.WriteOnly may = (may, tt)
state_such prefix May number state.Disabled may = (may, tt)

-- ---- what a step of a builder writes

inserted_such : (prefix : List ℕ) (number : ℕ) (ranges : List KeyRange) (range : KeyRange) → WriteOnlySuch (IsOfBuilt prefix number) (insertion (built_place prefix number) ranges range)
inserted_such prefix number ranges range = ((_, refl), by_test (begins_at ranges range.end))
  where
    by_test : (b : Bool) → WriteOnlySuch (IsOfBuilt prefix number) (cond b (ClearRange (point (range_key (built_place prefix number) range.end)) ∷ []) [])
    by_test true = (clears_point (IsOfBuilt prefix number) (range_key (built_place prefix number) range.end) (_, refl), tt)
    by_test false = tt

-- each of some records is there
each_so : {X : Type 0} (xs : List X) → AllByRecursion (λ (x : X). Unit {0}) xs
each_so [] = tt
each_so (x ∷ xs) = (tt, each_so xs)

builds_such : (prefix : List ℕ) (index : IndexDefinition) (records : List Record) → WriteOnlySuch (IsOfEntries prefix index.number) (build_writes prefix index records)
builds_such prefix index records = each_flat (WritesOnly (IsOfEntries prefix index.number)) (λ r. Unit {0}) (λ r. changes_by index.kind prefix index None (Some r)) records (λ r u. changes_such prefix index.kind index None (Some r)) (each_so records)

stepped_such : (prefix : List ℕ) (limit : ℕ) (index : IndexDefinition) (m : Map) (store : Store) (gap : Option KeyRange) →
    WriteOnlySuch (λ key. IsOfEntries prefix index.number key ⊎ IsOfBuilt prefix index.number key) (step_writes prefix limit index m store gap)
stepped_such prefix limit index m store None = tt
stepped_such prefix limit index m store (Some gap) =
    each_append (WritesOnly May) (build_writes prefix index (records_within part index store.records)) (insertion_in (built_place prefix index.number) m part)
    (wider (IsOfEntries prefix index.number) May (λ key of. inl of) (build_writes prefix index (records_within part index store.records)) (builds_such prefix index (records_within part index store.records)))
    (wider (IsOfBuilt prefix index.number) May (λ key of. inr of) (insertion_in (built_place prefix index.number) m part) (inserted_such prefix index.number _ part))
  where
    part : KeyRange
    part = first_part limit gap index store.records

    May : List ℕ → Type 0
    May key = IsOfEntries prefix index.number key ⊎ IsOfBuilt prefix index.number key

-- ---- what a command writes

-- by what its call asks for
asked_such : {K : Type 0} (May : List ℕ → Type 0) (footprint : K → Footprint) (asked : Result K StoreError) (m : Map) (store : Store) → ((value : K) → asked ≡ Ok value → WriteOnlySuch May ((footprint value).writes m store)) →
    WriteOnlySuch May ((footprint_on footprint asked).writes m store)
asked_such May footprint (Ok value) m store so = so value refl
asked_such May footprint (Err error) m store so = tt

-- what is asked for by the schema
pub by_schema_ok : {K : Type 0} (found : Result K Refusal) (value : K) → by_schema found ≡ Ok value → found ≡ Ok value
by_schema_ok (Ok own) value is = let same : own ≡ value = cc in ap Ok same
by_schema_ok (Err refusal) value is = absurd (cc)

pub number_found : (found : Option IndexDefinition) (number : ℕ) → by_schema (index_number found) ≡ Ok number → (index : IndexDefinition) × (found ≡ Some index) × (index.number ≡ number)
number_found None number is = absurd (cc)
number_found (Some index) number is = let same : index.number ≡ number = cc in (index, refl, same)

pub write_only_there : (states : List (ℕ × index_state.State)) (found : Option IndexDefinition) (index : IndexDefinition) → write_only_found states found ≡ Ok index → found ≡ Some index
write_only_there states None index is = absurd (cc)
write_only_there states (Some own) index is = by_state (Rattle.record_store.specs.Store.state_in states own.number) is
  where
    by_state : (now : index_state.State) → in_write_only now own ≡ Ok index → Some own ≡ Some index
    by_state state.Readable said = absurd (cc)
    by_state state.WriteOnly said = let same : own ≡ index = cc in ap Some same
    by_state state.Disabled said = absurd (cc)

store_such : (prefix : List ℕ) (m : Map) (store : Store) (command : Command) → WriteOnlySuch (MayWriteIn prefix store command) ((footprint_in (opened_as prefix store) command).writes m store)
store_such prefix m store (Create request) = tt
store_such prefix m store («Type» request) = asked_such (MayWriteIn prefix store («Type» request)) (type_footprint (opened_as prefix store)) (by_schema (add_type store.schema request)) m store (λ schema is. (refl, tt))
store_such prefix m store (commands.Field name field) =
    asked_such (MayWriteIn prefix store (commands.Field name field)) (type_footprint (opened_as prefix store)) (by_schema (add_field store.schema name field)) m store (λ schema is. (refl, tt))
store_such prefix m store (Save type cells) =
    asked_such (MayWriteIn prefix store (Save type cells)) (save_footprint (opened_as prefix store)) (by_schema (record_of store.schema type cells)) m store
    (λ r is. wider (MayWriteWriting prefix store (primary_key r)) (MayWriteIn prefix store (Save type cells)) (λ key may. (r, by_schema_ok (record_of store.schema type cells) r is, may)) (save_writes prefix store r) (saved_such prefix store r))
store_such prefix m store (Load type cells) = asked_such (MayWriteIn prefix store (Load type cells)) (load_footprint (opened_as prefix store)) (by_schema (key_of store.schema type cells)) m store (λ k is. tt)
store_such prefix m store (Remove type cells) =
    asked_such (MayWriteIn prefix store (Remove type cells)) (remove_footprint (opened_as prefix store)) (by_schema (key_of store.schema type cells)) m store
    (λ k is. wider (MayWriteWriting prefix store k) (MayWriteIn prefix store (Remove type cells)) (λ key may. (k, by_schema_ok (key_of store.schema type cells) k is, may)) (remove_writes prefix store k (record_at k store.records))
    (removed_such prefix store k (record_at k store.records) refl))
store_such prefix m store (Query query) = tt
store_such prefix m store (Plan query) = tt
store_such prefix m store (Execute plan) = tt
store_such prefix m store (Index request) =
    asked_such (MayWriteIn prefix store (Index request)) (index_footprint (opened_as prefix store)) (by_schema (new_index store.schema request)) m store
    (λ index is. (inl refl, state_such prefix (MayWriteIn prefix store (Index request)) index.number (new_state (of_type index.type_number store.records)) (inr (index, by_schema_ok (new_index store.schema request) index is, refl))))
store_such prefix m store (Drop name) =
    asked_such (MayWriteIn prefix store (Drop name)) (drop_footprint (opened_as prefix store)) (by_schema (index_number (find_index store.schema name))) m store
    (λ number is. let (index, found, same) = number_found (find_index store.schema name) number is in
    wider (λ key. (key ≡ schema_key prefix) ⊎ MayWriteEmptying prefix number key) (MayWriteIn prefix store (Drop name))
    (λ key may. elim may [ inl schema ↦ inl schema | inr of ↦ inr (index, found, subst (λ n. MayWriteEmptying prefix n key) (sym same) of) ])
    (drop_writes prefix store number) (dropped_such prefix store number))
store_such prefix m store (Disable name) =
    asked_such (MayWriteIn prefix store (Disable name)) (mark_footprint state.Disabled (opened_as prefix store)) (by_schema (index_number (find_index store.schema name))) m store
    (λ number is. let (index, found, same) = number_found (find_index store.schema name) number is in
    wider (MayWriteEmptying prefix number) (MayWriteIn prefix store (Disable name)) (λ key of. (index, found, subst (λ n. MayWriteEmptying prefix n key) (sym same) of)) (marked_writes state.Disabled prefix number) (marked_such prefix state.Disabled number))
store_such prefix m store (WriteOnly name) =
    asked_such (MayWriteIn prefix store (WriteOnly name)) (mark_footprint state.WriteOnly (opened_as prefix store)) (by_schema (index_number (find_index store.schema name))) m store
    (λ number is. let (index, found, same) = number_found (find_index store.schema name) number is in
    wider (MayWriteEmptying prefix number) (MayWriteIn prefix store (WriteOnly name)) (λ key of. (index, found, subst (λ n. MayWriteEmptying prefix n key) (sym same) of)) (marked_writes state.WriteOnly prefix number) (marked_such prefix state.WriteOnly number))
store_such prefix m store (Readable name) =
    asked_such (MayWriteIn prefix store (Readable name)) (λ (index : IndexDefinition). readable_footprint (opened_as prefix store) index.number) (write_only_named store.schema (opened_as prefix store).states name) m store
    (λ index is. wider (MayWriteMarking prefix index.number) (MayWriteIn prefix store (Readable name)) (λ key of. (index, write_only_there (opened_as prefix store).states (find_index store.schema name) index is, of)) (readable_writes prefix index.number) (readable_such prefix index.number))
store_such prefix m store (Build name zero) = tt
store_such prefix m store (Build name (suc more)) =
    asked_such (MayWriteIn prefix store (Build name (suc more))) (step_footprint (opened_as prefix store) (suc more)) (write_only_named store.schema (opened_as prefix store).states name) m store
    (λ index is. wider (λ key. IsOfEntries prefix index.number key ⊎ IsOfBuilt prefix index.number key) (MayWriteIn prefix store (Build name (suc more))) (λ key of. (index, write_only_there (opened_as prefix store).states (find_index store.schema name) index is, of))
    (step_writes prefix (suc more) index m store (gap_of store index.number)) (stepped_such prefix (suc more) index m store (gap_of store index.number)))
store_such prefix m store (State name) = tt
store_such prefix m store (Aggregate name group) = asked_such (MayWriteIn prefix store (Aggregate name group)) (total_footprint (opened_as prefix store) group) (totalled_index store.schema (opened_as prefix store).states group (find_index store.schema name)) m store (λ index is. tt)

schema_such : (number : ℕ) (made : Result Schema Refusal) (request : Rattle.metadata.specs.declared.definition.SchemaRequest.SchemaRequest) → WriteOnlySuch (MayWriteKey number None (Create request)) (schema_written number made)
schema_such number (Ok schema) request = (refl, tt)
schema_such number (Err refusal) request = tt

footprint_such : (number : ℕ) (m : Map) (serial : Serial) (command : Command) → WriteOnlySuch (MayWriteKey number serial command) (footprint_writes number m serial command)
footprint_such number m (Some store) command = store_such (store_prefix number) m store command
footprint_such number m None (Create request) = schema_such number (schema_asked request) request
footprint_such number m None («Type» request) = tt
footprint_such number m None (commands.Field name field) = tt
footprint_such number m None (Save type cells) = tt
footprint_such number m None (Load type cells) = tt
footprint_such number m None (Remove type cells) = tt
footprint_such number m None (Query query) = tt
footprint_such number m None (Plan query) = tt
footprint_such number m None (Execute plan) = tt
footprint_such number m None (Index request) = tt
footprint_such number m None (Drop name) = tt
footprint_such number m None (Disable name) = tt
footprint_such number m None (WriteOnly name) = tt
footprint_such number m None (Readable name) = tt
footprint_such number m None (Build name limit) = tt
footprint_such number m None (State name) = tt
footprint_such number m None (Aggregate name group) = tt

-- WRITTEN: a command writes such keys alone
pub reach_writes : (number : ℕ) (m : Map) (serial : Serial) (command : Command) → WriteOnlySuch (MayWriteKey number serial command) (writes number m serial command)
reach_writes number m serial command = by_line (serial_line serial command)
  where
    by_line : (line : serve.Line) → WriteOnlySuch (MayWriteKey number serial command) (written_with line (footprint_writes number m serial command))
    by_line (serve.Replies told after) = footprint_such number m serial command
    by_line (serve.Refuses refusal) = tt
    by_line (serve.Queries store query) = tt
    by_line (serve.Plans store query) = tt
    by_line (serve.Executes store plan) = tt
