-- The range of an index's entries: what clearing it leaves, and that it has all entries.
use Rattle.std.proofs.Common.{◌≡◌, ◌⊎◌, inl, inr, ℕ, Bool, true, false, not, cond, ◌&&◌, ◌==◌, List, [], ◌∷◌, ◌++◌, append-nil, refl, sym, ap, subst, ◌∙◌, Option, Some, None, map}
use Rattle.std.specs.Prelude.{All, MatchBool}
use Rattle.std.specs.FinMap.{get}
use Rattle.std.specs.List.{AllByRecursion, starts_with}
use Rattle.std.specs.Ordering.{is_lt}
use Rattle.std.proofs.Math.Dec.{eqb}
use Rattle.std.proofs.lemmas.Bool.{false_from_ne_true, true≢false}
use Rattle.tuple_codec.specs.Item.{Item, AreItems}
use Rattle.tuple_codec.specs.Item as item
use Rattle.tuple_codec.specs.Spelling.{spelling}
use Rattle.tuple_codec.specs.Subspace.{BeginsWith}
use Rattle.tuple_codec.proofs.ByteOrder.{before_escape}
use Rattle.tuple_codec.proofs.Prefixes.{begins_or_not, cmp_behind}
use Rattle.tuple_codec.proofs.TupleOrder.{outer_tail}
use Rattle.kv_core.specs.Bytes.{key_lt}
use Rattle.kv_core.specs.Map.{Map, after}
use Rattle.kv_core.specs.Range.{KeyRange, contains}
use Rattle.kv_core.specs.declared.change.Mutation.TheVariants.{ClearRange}
use Rattle.kv_core.proofs.Changes.{get-after, get-kept}
use Rattle.kv_core.proofs.Stored.{get-stored}
use Rattle.metadata.specs.declared.cells.Cell.{Cell}
use Rattle.metadata.specs.declared.index.IndexDefinition.{IndexDefinition}
use Rattle.metadata.specs.declared.index.IndexKind.{IndexKind}
use Rattle.metadata.specs.declared.index.IndexKind.TheVariants.{Value, Count, Sum}
use Rattle.metadata.specs.declared.index.State.{State}
use Rattle.metadata.specs.declared.index.State.TheVariants.{Readable, WriteOnly, Disabled}
use Rattle.metadata.specs.Cell.{IsCell, cells_at, items_of}
use Rattle.metadata.specs.Record.{Record, primary_key}
use Rattle.metadata.specs.Records.{IsStorable, of_type}
use Rattle.metadata.proofs.CellItems.{all-cells_at, are_items-items_of}
use Rattle.index_maint.specs.Built.{built_records}
use Rattle.index_maint.specs.Changes.{entries_map}
use Rattle.index_maint.specs.Entries.{entry_items, entry_of}
use Rattle.index_maint.specs.Kept.{HasDefined, HasKept, HasPart}
use Rattle.index_maint.specs.Layout.{entries_prefix, entry_pair, entry_pairs}
use Rattle.index_maint.specs.Totals.{Clearing, HasTotals, Share, count_clears, count_share, sum_clears, sum_share}
use Rattle.index_maint.proofs.Lookups.{lookup-none}
use Rattle.index_maint.proofs.RecordLists.{all_filter}
use Rattle.record_store.specs.Store.{Status, built_by, state_by}
use Rattle.record_store.specs.Layout.{entries_range}
use Rattle.record_store.specs.Holds.{has_number}
use Rattle.record_store.proofs.Held.{under}
use Rattle.record_store.proofs.Listed.{of_number}
use Rattle.record_store.proofs.Kept.{HasIndex}
use Rattle.record_store.proofs.Keys.{above_itself}

-- a key begins so, or doesn't
pub begins_or_other : (begin key : List ℕ) → BeginsWith begin key ⊎ (BeginsWith begin key → ⊥)
begins_or_other begin key = by_test (starts_with eqb key begin) (begins_or_not key begin begin refl (starts_with eqb key begin) refl)
  where
    by_test : (b : Bool) → MatchBool b (BeginsWith begin key) (BeginsWith begin key → ⊥) → BeginsWith begin key ⊎ (BeginsWith begin key → ⊥)
    by_test true is = inl is
    by_test false is = inr is

-- ---- the packs of entries

are_items-append : (t u : List Item) → AreItems (item.items_from t) → AreItems (item.items_from u) → AreItems (item.items_from (t ++ u))
are_items-append [] u h g = g
are_items-append (x ∷ t) u h g = (h.0, are_items-append t u h.1 g)

-- the pack of a record's entry begins with no byte FF
entry_low : (index : IndexDefinition) (r : Record) → IsStorable r → key_lt (spelling (entry_items (entry_of index r))) (255 ∷ []) ≡ true
entry_low index r can =
    ap is_lt (before_escape (spelling (entry_items (entry_of index r))) [] (outer_tail (entry_items (entry_of index r))
    (are_items-append (items_of (cells_at r.cells index.columns)) (primary_key r) (are_items-items_of (cells_at r.cells index.columns) (all-cells_at r.cells index.columns can.cells)) can.key.items)))

-- nor does that of a group
group_low : (group : List Cell) → All IsCell group → key_lt (spelling (items_of group)) (255 ∷ []) ≡ true
group_low group cells = ap is_lt (before_escape (spelling (items_of group)) [] (outer_tail (items_of group) (are_items-items_of group cells)))

module _ (prefix : List ℕ) (number : ℕ) where
  -- the keys of the range begin with the prefix of the entries
  pub range_begins : (key : List ℕ) → contains (entries_range prefix number) key ≡ true → BeginsWith (entries_prefix prefix number) key
  range_begins key inside =
      let q = entries_prefix prefix number in
      under q [] (255 ∷ []) key (ap (λ b. contains (record { begin = b; end = q ++ 255 ∷ [] }) key) (append-nil q) ∙ inside)

  -- LEAVE: clearing the range leaves each key that doesn't
  pub range_leaves : (m : Map) (key : List ℕ) → (BeginsWith (entries_prefix prefix number) key → ⊥) → get (after (ClearRange (entries_range prefix number)) m) key ≡ get m key
  range_leaves m key other =
      get-after (ClearRange (entries_range prefix number)) m key (false_from_ne_true (contains (entries_range prefix number) key) (λ inside. other (range_begins key inside)))

  -- CLEAR: it leaves nothing where nothing was out of the range
  pub range_clears : (m : Map) (key : List ℕ) → (contains (entries_range prefix number) key ≡ false → get m key ≡ None) → get (after (ClearRange (entries_range prefix number)) m) key ≡ None
  range_clears m key out = get-kept m (λ k. not (contains (entries_range prefix number) k)) key ∙ by_test (contains (entries_range prefix number) key) refl
    where
      by_test : (b : Bool) → contains (entries_range prefix number) key ≡ b → cond (not b) (get m key) None ≡ None
      by_test true is = refl
      by_test false is = out is

  -- what begins so and goes on with no byte FF is in the range
  low_inside : (bytes : List ℕ) → key_lt bytes (255 ∷ []) ≡ true → contains (entries_range prefix number) (entries_prefix prefix number ++ bytes) ≡ true
  low_inside bytes low =
      (λ i. above_itself prefix (entries_prefix prefix number) bytes i && is_lt (cmp_behind (entries_prefix prefix number) bytes (255 ∷ []) i)) ∙ low

-- OUT: out of the range an index has nothing
module _ (prefix : List ℕ) (records : List Record) (storable : AllByRecursion IsStorable records) (m : Map) where
  others_keys : (index : IndexDefinition) (key : List ℕ) (left : List Record) → contains (entries_range prefix index.number) key ≡ false → AllByRecursion IsStorable left →
      AllByRecursion (λ p. key ≡ p.0 → ⊥) (map (entry_pair prefix index.number) (map (entry_of index) left))
  others_keys index key [] out can = tt
  others_keys index key (r ∷ left) out can = (
    λ same. true≢false (sym (low_inside prefix index.number (spelling (entry_items (entry_of index r))) (entry_low index r can.0)) ∙ ap (contains (entries_range prefix index.number)) (sym same) ∙ out),
    others_keys index key left out can.1,
  )

  entries_out : (index : IndexDefinition) (bytes : List ℕ) → contains (entries_range prefix index.number) (entries_prefix prefix index.number ++ bytes) ≡ false →
      get (entries_map prefix index records) (entries_prefix prefix index.number ++ bytes) ≡ None
  entries_out index bytes out =
      get-stored (entry_pairs prefix index records) (entries_prefix prefix index.number ++ bytes)
      ∙ lookup-none (entries_prefix prefix index.number ++ bytes) (entry_pairs prefix index records)
      (others_keys index (entries_prefix prefix index.number ++ bytes) (of_type index.type_number records) out (all_filter IsStorable (λ r. r.definition.number == index.type_number) records storable))

  totals_out : (index : IndexDefinition) (counted : List Record) (bytes : List ℕ) (share : Share) (clears : Clearing) → contains (entries_range prefix index.number) (entries_prefix prefix index.number ++ bytes) ≡ false →
      HasTotals share clears prefix index counted m → get m (entries_prefix prefix index.number ++ bytes) ≡ None
  totals_out index counted bytes share clears out has =
      has.groups bytes
      (λ group is same.
      true≢false
      (sym (low_inside prefix index.number (spelling (items_of group)) (group_low group is.cells))
      ∙ ap (λ bs. contains (entries_range prefix index.number) (entries_prefix prefix index.number ++ bs)) (sym same) ∙ out))

  nothing_out : (index : IndexDefinition) (ranges : List KeyRange) (state : State) (bytes : List ℕ) → HasKept state prefix index ranges records m →
      contains (entries_range prefix index.number) (entries_prefix prefix index.number ++ bytes) ≡ false → get m (entries_prefix prefix index.number ++ bytes) ≡ None
  nothing_out index ranges Readable bytes has out = by_kind index.kind has
    where
      by_kind : (kind : IndexKind) → HasDefined kind prefix index records m → get m (entries_prefix prefix index.number ++ bytes) ≡ None
      by_kind Value has = has bytes ∙ entries_out index bytes out
      by_kind Count has = totals_out index records bytes count_share count_clears out has
      by_kind Sum has = totals_out index records bytes sum_share sum_clears out has
  nothing_out index ranges WriteOnly bytes has out = by_kind index.kind has
    where
      by_kind : (kind : IndexKind) → HasPart kind prefix index ranges records m → get m (entries_prefix prefix index.number ++ bytes) ≡ None
      by_kind Value has = by_value (get m (entries_prefix prefix index.number ++ bytes)) refl
        where
          by_value : (value : Option (List ℕ)) → get m (entries_prefix prefix index.number ++ bytes) ≡ value → value ≡ None
          by_value None is = refl
          by_value (Some value) is = sym (has.only bytes value is) ∙ entries_out index bytes out
      by_kind Count has = totals_out index (built_records ranges records) bytes count_share count_clears out has
      by_kind Sum has = totals_out index (built_records ranges records) bytes sum_share sum_clears out has
  nothing_out index ranges Disabled bytes has out = has bytes

  -- so has the index with a number
  pub nothing_out_of : (status : ℕ → Status) (number : ℕ) (indexes : List IndexDefinition) (bytes : List ℕ) → has_number indexes number ≡ true →
      AllByRecursion (λ index. HasIndex prefix records m index (status index.number)) indexes →
      contains (entries_range prefix number) (entries_prefix prefix number ++ bytes) ≡ false → get m (entries_prefix prefix number ++ bytes) ≡ None
  nothing_out_of status number indexes bytes there all out =
      let (index, same, has) = of_number (λ index. HasIndex prefix records m index (status index.number)) number indexes there all in
      subst (λ n. contains (entries_range prefix n) (entries_prefix prefix n ++ bytes) ≡ false → get m (entries_prefix prefix n ++ bytes) ≡ None) same
      (nothing_out index (built_by (status index.number)) (state_by (status index.number)) bytes has) out
