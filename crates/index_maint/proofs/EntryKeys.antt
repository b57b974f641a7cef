-- The keys of entries: those of records with different primary keys differ.
use Rattle.std.proofs.Common.{◌≡◌, ℕ, true, false, cond, Some, List, [], ◌∷◌, ◌++◌, length, refl, sym, ap, ◌∙◌}
use Rattle.std.specs.Prelude.{drop, suc, take}
use Rattle.std.proofs.Math.Seq.{drop-append_seam, take-append_seam}
use Rattle.std.proofs.lemmas.Bool.{and_from, and_parts, false_from_ne_true, true≢false}
use Rattle.std.proofs.lemmas.Cmp.{tied_itself, nat_list_cmp_total}
use Rattle.std.specs.Ordering.{is_eq}
use Rattle.tuple_codec.specs.Item.{Item, AreItems}
use Rattle.tuple_codec.specs.Item as item
use Rattle.tuple_codec.specs.Order.{tuple_cmp}
use Rattle.tuple_codec.specs.Spelling.{spelling}
use Rattle.tuple_codec.proofs.Prefixes.{cancel}
use Rattle.tuple_codec.proofs.TupleOrder.{tuple_order}
use Rattle.kv_core.specs.Bytes.{key_cmp}
use Rattle.kv_core.specs.Range.{point}
use Rattle.kv_core.specs.declared.change.Mutation.TheVariants.{ClearRange, Set}
use Rattle.kv_core.proofs.Order.{tied_keys}
use Rattle.metadata.specs.declared.cells.Cell.{Cell}
use Rattle.metadata.specs.declared.index.IndexDefinition.{IndexDefinition}
use Rattle.metadata.specs.Cell.{cells_at, items_of}
use Rattle.metadata.specs.Record.{Record, primary_key}
use Rattle.metadata.specs.Records.{IsStorable}
use Rattle.metadata.proofs.CellItems.{all-cells_at, are_items-items_of, items_of-injective}
use Rattle.index_maint.specs.Changes.{clear_entry, set_entry, value_changes}
use Rattle.index_maint.specs.Entries.{HasItems, IndexEntry, entry_items, entry_of, same_entry}
use Rattle.index_maint.specs.Layout.{entries_prefix, entry_key}
use Rattle.index_maint.proofs.Replaced.{tied_tuples}

are_items-append : (t u : List Item) → AreItems (item.items_from t) → AreItems (item.items_from u) → AreItems (item.items_from (t ++ u))
are_items-append [] u h g = g
are_items-append (x ∷ t) u h g = (h.0, are_items-append t u h.1 g)

-- the tuple of a storable record's entry is one of items
entry_are_items : (index : IndexDefinition) (r : Record) → IsStorable r → AreItems (item.items_from (entry_items (entry_of index r)))
entry_are_items index r h =
    are_items-append (items_of (cells_at r.cells index.columns)) (primary_key r)
    (are_items-items_of (cells_at r.cells index.columns) (all-cells_at r.cells index.columns h.cells)) h.key.items

-- packs of items are those of one list
same_items : (t u : List Item) → AreItems (item.items_from t) → AreItems (item.items_from u) → spelling t ≡ spelling u → t ≡ u
same_items t u h g same =
    tied_tuples t u (ap is_eq (sym (tuple_order t u h g) ∙ ap (key_cmp (spelling t)) (sym same) ∙ tied_itself nat_list_cmp_total (spelling t)))

-- lists that begin with as many elements end alike
same_ends : (front other xs ys : List Item) → length front ≡ length other → front ++ xs ≡ other ++ ys → xs ≡ ys
same_ends front other xs ys long same = sym (drop-append_seam front xs) ∙ (λ i. drop (long i) (same i)) ∙ drop-append_seam other ys

same_fronts : (front other xs ys : List Item) → length front ≡ length other → front ++ xs ≡ other ++ ys → front ≡ other
same_fronts front other xs ys long same = sym (take-append_seam front xs) ∙ (λ i. take (long i) (same i)) ∙ take-append_seam other ys

-- an entry has as many items in front of the primary key as the index has columns
count : (cells : List Cell) (places : List ℕ) → length (items_of (cells_at cells places)) ≡ length places
count cells [] = refl
count cells (place ∷ places) = ap suc (count cells places)

-- APART: records whose entries have one key have one primary key
pub entries_apart : (prefix : List ℕ) (number : ℕ) (index : IndexDefinition) (r s : Record) → IsStorable r → IsStorable s →
    entry_key prefix number (entry_of index r) ≡ entry_key prefix number (entry_of index s) → primary_key r ≡ primary_key s
entries_apart prefix number index r s h k same =
    same_ends (items_of (cells_at r.cells index.columns)) (items_of (cells_at s.cells index.columns)) (primary_key r) (primary_key s)
    (count r.cells index.columns ∙ sym (count s.cells index.columns))
    (same_items (entry_items (entry_of index r)) (entry_items (entry_of index s)) (entry_are_items index r h) (entry_are_items index s k)
    (cancel (entries_prefix prefix number) (spelling (entry_items (entry_of index r))) (spelling (entry_items (entry_of index s))) same))

-- a tuple of items ties with itself
tuple_ties : (t : List Item) → AreItems (item.items_from t) → is_eq (tuple_cmp t t) ≡ true
tuple_ties t h = ap is_eq (sym (tuple_order t t h h) ∙ tied_itself nat_list_cmp_total (spelling t))

-- the items of the entry of a storable record
has_items : (index : IndexDefinition) (r : Record) → IsStorable r → HasItems (entry_of index r)
has_items index r h = (are_items-items_of (cells_at r.cells index.columns) (all-cells_at r.cells index.columns h.cells), h.key.items)

-- ONE ENTRY: entries of items with one key are the same
pub one_entry : (prefix : List ℕ) (number : ℕ) (index : IndexDefinition) (r s : Record) → HasItems (entry_of index r) → HasItems (entry_of index s) →
    entry_key prefix number (entry_of index r) ≡ entry_key prefix number (entry_of index s) → same_entry (entry_of index r) (entry_of index s) ≡ true
one_entry prefix number index r s h k same =
    let a = items_of (cells_at r.cells index.columns) in
    let b = items_of (cells_at s.cells index.columns) in
    let items = same_items (entry_items (entry_of index r)) (entry_items (entry_of index s))
    (are_items-append a (primary_key r) h.0 h.1) (are_items-append b (primary_key s) k.0 k.1)
    (cancel (entries_prefix prefix number) (spelling (entry_items (entry_of index r))) (spelling (entry_items (entry_of index s))) same) in
    let long = count r.cells index.columns ∙ sym (count s.cells index.columns) in
    let columns = same_fronts a b (primary_key r) (primary_key s) long items in
    let keys = same_ends a b (primary_key r) (primary_key s) long items in
    and_from (is_eq (tuple_cmp a b)) (is_eq (tuple_cmp (primary_key r) (primary_key s)))
    (ap (λ u. is_eq (tuple_cmp a u)) (sym columns) ∙ tuple_ties a h.0)
    (ap (λ u. is_eq (tuple_cmp (primary_key r) u)) (sym keys) ∙ tuple_ties (primary_key r) h.1)

-- ONE KEY: entries of storable records with one key are the same
pub same_key : (prefix : List ℕ) (number : ℕ) (index : IndexDefinition) (r s : Record) → IsStorable r → IsStorable s →
    entry_key prefix number (entry_of index r) ≡ entry_key prefix number (entry_of index s) → same_entry (entry_of index r) (entry_of index s) ≡ true
same_key prefix number index r s h k = one_entry prefix number index r s (has_items index r h) (has_items index s k)

-- entries that are the same by the test are equal
pub same_entry-equal : (a b : IndexEntry) → same_entry a b ≡ true → a ≡ b
same_entry-equal a b same =
    let parts = and_parts (is_eq (tuple_cmp (items_of a.columns) (items_of b.columns))) (is_eq (tuple_cmp a.key b.key)) same in
    let columns = items_of-injective a.columns b.columns (tied_tuples (items_of a.columns) (items_of b.columns) parts.0) in
    (λ i. record { columns = columns i; key = tied_tuples a.key b.key parts.1 i })

-- ---- what is written, by the keys of the entries

module _ (prefix : List ℕ) (index : IndexDefinition) (r s : Record) (gone come : List ℕ)
    (gone_is : gone ≡ entry_key prefix index.number (entry_of index r)) (come_is : come ≡ entry_key prefix index.number (entry_of index s)) where
  -- nothing where they have one key
  pub nothing_written : HasItems (entry_of index r) → HasItems (entry_of index s) → is_eq (key_cmp gone come) ≡ true → value_changes prefix index (Some r) (Some s) ≡ []
  nothing_written h k tie =
      ap (λ b. cond b [] (clear_entry prefix index.number (entry_of index r) ∷ set_entry prefix index.number (entry_of index s) ∷ []))
      (one_entry prefix index.number index r s h k (sym gone_is ∙ tied_keys gone come tie ∙ come_is))

  -- else the one is cleared and the other set
  pub both_written : is_eq (key_cmp gone come) ≡ false → value_changes prefix index (Some r) (Some s) ≡ ClearRange (point gone) ∷ Set come [] ∷ []
  both_written apart =
      ap (λ b. cond b [] (clear_entry prefix index.number (entry_of index r) ∷ set_entry prefix index.number (entry_of index s) ∷ []))
      (false_from_ne_true (same_entry (entry_of index r) (entry_of index s)) (λ same.
      let one = ap (entry_key prefix index.number) (same_entry-equal (entry_of index r) (entry_of index s) same) in
      let tie : is_eq (key_cmp gone come) ≡ true =
      ap (λ k. is_eq (key_cmp gone k)) (come_is ∙ sym one ∙ sym gone_is) ∙ ap is_eq (tied_itself nat_list_cmp_total gone) in
      true≢false (sym tie ∙ apart)))
      ∙ (λ i. ClearRange (point (sym gone_is i)) ∷ Set (sym come_is i) [] ∷ [])
