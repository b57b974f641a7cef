-- A node that rises by its form gives rows with rising primary keys, whatever pairs the map has.
use Rattle.std.specs.Prelude.{◌≡◌, ℕ, Bool, false, not, List, [], ◌∷◌, ◌++◌, filter, flat_map, Option, Some, None, refl, option_map, option_and_then, pos}
use Rattle.std.specs.List.{list_all, list_any}
use Rattle.std.specs.Option.{option_zip}
use Rattle.std.specs.FinMap.Entries.{find}
use Rattle.std.specs.Ordering.{eq_by_cmp}
use Rattle.std.specs.declared.cmp.Ordering.TheVariants.{Less}
use Rattle.std.proofs.Common.{ap, sym, ◌∙◌, subst}
use Rattle.std.proofs.lemmas.List.{append-nil, append_cancel_left}
use Rattle.std.proofs.lemmas.Option.{none-some, same_Some}
use Rattle.tuple_codec.specs.Item.{int}
use Rattle.tuple_codec.specs.Order.{bytes_cmp}
use Rattle.tuple_codec.specs.Spelling.{item_spelling, outer}
use Rattle.metadata.specs.declared.cells.Cell.{Cell}
use Rattle.metadata.specs.declared.cells.Cell.TheVariants.{Int}
use Rattle.metadata.specs.declared.definition.TypeDefinition.{TypeDefinition}
use Rattle.metadata.specs.Cell.{IsCell, cells_at, items_of}
use Rattle.metadata.specs.Layout.{Pair, record_key, records_prefix}
use Rattle.metadata.specs.Order.{cells_cmp}
use Rattle.metadata.specs.Record.{Record, key_cells, primary_key}
use Rattle.metadata.proofs.CellItems.{all-cells_at}
use Rattle.metadata.proofs.StoredOnce.{made_is}
use Rattle.query.specs.Truth.{selects}
use Rattle.planner.specs.Layout.{primary_cells, stored_record}
use Rattle.planner.specs.Meaning.{of_each, pairs_scanned, scanned_keys, source_keys, fetched, in_key_order, keys_in_all, first_of_each, node_rows, all_rows}
use Rattle.planner.specs.Pack.{pack, pack_cell}
use Rattle.planner.specs.Plan.{Scan, IndexScan, Source, one, intersection, Node, scan, fetch, filtered, union, unordered_union, distinct, Nodes, no_nodes, node}
use Rattle.planner.specs.Range.{behind}
use Rattle.planner.specs.Rising.{PartsRise, Rises, SourceRises}
use Rattle.planner.proofs.KeyOrder.{KeysRise}
use Rattle.planner.proofs.Lists.{Gave, Pairwise, all_each, gave, pairwise_gave, pairwise_where}
use Rattle.planner.proofs.Ranges.{Each}
use Rattle.planner.proofs.Residual.{each_member, each_where}
use Rattle.planner.proofs.Rows.{first_of_each_from, in_key_order_from, in_key_order_rising}
use Rattle.planner.proofs.Scans.{bytes_behind}
use Rattle.planner.proofs.Sorted.{Rise}
use Rattle.planner.proofs.Sorts.{behind_fixed, pack_order}
use Rattle.planner.proofs.ReadBack.{records_back}
use Rattle.planner.proofs.RisingKeys.{IsKeyOf, keys_are, keys_rise, pairs_rise}
use Rattle.planner.proofs.CodecLaws.{codec_laws}
use Rattle.planner.proofs.Unpacked.{one_pack}

-- ---- the key of a record

-- a pair that is read as a record has its key, of the type's number and the record's key cells
pub record IsRecordOf (prefix : List ℕ) (t : TypeDefinition) (key : List ℕ) (r : Record) : Type 0 where
  pub is : key ≡ record_key prefix (items_of (Int (pos t.number) ∷ key_cells r))
  pub primary : primary_cells r ≡ Int (pos t.number) ∷ key_cells r
  pub stored : Each IsCell (key_cells r)

-- each such pair is read so
pub record_read : (prefix : List ℕ) (t : TypeDefinition) (pair : Pair) (r : Record) → stored_record prefix t pair ≡ Some r → IsRecordOf prefix t pair.0 r
record_read prefix t pair r e =
    let back = (records_back prefix t pair r).0 e in
    let made = made_is t r.cells r back.stored.made in
    subst (IsRecordOf prefix t pair.0) made
    (record {
      is = back.key ∙ ap (λ x. record_key prefix (primary_key x)) (sym made);
      primary = refl;
      stored = all_each IsCell (cells_at r.cells t.key) (all-cells_at r.cells t.key back.stored.cells);
    })

-- behind the type's number the keys of records are ordered as their key cells
keys_order : (prefix : List ℕ) (number : ℕ) (a b : List Cell) → Each IsCell a → Each IsCell b →
    bytes_cmp (record_key prefix (items_of (Int (pos number) ∷ a))) (record_key prefix (items_of (Int (pos number) ∷ b))) ≡ cells_cmp a b
keys_order prefix number a b v w =
    let one = item_spelling outer (int (pos 1)) in
    let two = pack_cell (Int (pos number)) in
    bytes_behind prefix (one ++ (two ++ pack a)) (one ++ (two ++ pack b)) ∙ bytes_behind one (two ++ pack a) (two ++ pack b) ∙ bytes_behind two (pack a) (pack b) ∙ pack_order IsCell codec_laws a b v w

-- the first record's primary key is below that of the second
abbrev pub KeyLess : Record → Record → Type 0
KeyLess r s = cells_cmp (primary_cells r) (primary_cells s) ≡ Less

-- records whose key cells are in order have primary keys in order
key_less : (prefix : List ℕ) (t : TypeDefinition) (k l : List ℕ) (r s : Record) → IsRecordOf prefix t k r → IsRecordOf prefix t l s → cells_cmp (key_cells r) (key_cells s) ≡ Less → KeyLess r s
key_less prefix t k l r s u v less = (λ i. cells_cmp (u.primary i) (v.primary i)) ∙ behind_fixed (Int (pos t.number) ∷ []) (key_cells r) (key_cells s) ∙ less

-- ---- a fetched record

-- the record of a key has the key's cells behind the number
fetched_cells : (prefix : List ℕ) (t : TypeDefinition) (key : List Cell) (k : IsKeyOf t key) (r : Record) → IsRecordOf prefix t (record_key prefix (items_of key)) r → k.cells ≡ key_cells r
fetched_cells prefix t key k r is =
    let one = item_spelling outer (int (pos 1)) in
    let own : List Cell = Int (pos t.number) ∷ key_cells r in
    let packs : pack key ≡ pack own = append_cancel_left one (pack key) (pack own) (append_cancel_left prefix (one ++ pack key) (one ++ pack own) is.is) in
    let number : pack_cell k.number ≡ pack_cell (Int (pos t.number)) = sym (append-nil (pack_cell k.number)) ∙ k.numbered ∙ append-nil (pack_cell (Int (pos t.number))) in
    let behind_it : pack_cell (Int (pos t.number)) ++ pack k.cells ≡ pack_cell (Int (pos t.number)) ++ pack (key_cells r) = ap (λ p. p ++ pack k.cells) (sym number) ∙ ap pack (sym k.is) ∙ packs in
    one_pack k.cells (key_cells r) k.stored.1 is.stored (append_cancel_left (pack_cell (Int (pos t.number))) (pack k.cells) (pack (key_cells r)) behind_it)

module _ (prefix : List ℕ) (pairs : List Pair) (t : TypeDefinition) where
  -- a record that is fetched has the key that it is fetched by
  fetched_read : (key : List Cell) (r : Record) → fetched prefix pairs t key ≡ Some r → IsRecordOf prefix t (record_key prefix (items_of key)) r
  fetched_read key r e = by (find bytes_cmp (record_key prefix (items_of key)) pairs) e
    where
      by : (o : Option (List ℕ)) → option_and_then (λ value. stored_record prefix t (record_key prefix (items_of key), value)) o ≡ Some r → IsRecordOf prefix t (record_key prefix (items_of key)) r
      by None h = absurd (none-some r h)
      by (Some value) h = record_read prefix t (record_key prefix (items_of key), value) r h

  -- records fetched by keys of which one is below the other
  fetched_less : (x y : List Cell) → IsKeyOf t x → IsKeyOf t y → (r s : Record) → fetched prefix pairs t x ≡ Some r → fetched prefix pairs t y ≡ Some s → cells_cmp x y ≡ Less → KeyLess r s
  fetched_less x y k l r s e f less =
      let u = fetched_read x r e in
      let v = fetched_read y s f in
      let same : k.number ∷ [] ≡ l.number ∷ [] = one_pack (k.number ∷ []) (l.number ∷ []) (k.stored.0, tt) (l.stored.0, tt) (k.numbered ∙ sym l.numbered) in
      let left : x ≡ (k.number ∷ []) ++ key_cells r = k.is ∙ ap (λ w. k.number ∷ w) (fetched_cells prefix t x k r u) in
      let right : y ≡ (k.number ∷ []) ++ key_cells s = l.is ∙ ap (λ w. l.number ∷ w) (fetched_cells prefix t y l s v) ∙ ap (λ w. w ++ key_cells s) (sym same) in
      key_less prefix t (record_key prefix (items_of x)) (record_key prefix (items_of y)) r s u v
      (sym (behind_fixed (k.number ∷ []) (key_cells r) (key_cells s)) ∙ (λ i. cells_cmp (sym left i) (sym right i)) ∙ less)

  -- ---- what a fetch goes by

  -- the primary keys of a fetch are keys of the type
  pub source_are : (s : Source) (keys : List (List Cell)) → source_keys prefix pairs t s ≡ Some keys → Each (IsKeyOf t) keys
  source_are (one s) keys means = keys_are prefix pairs t s keys means
  source_are (intersection ss) keys means = by (of_each (scanned_keys prefix pairs t) ss) refl means
    where
      in_all : (zs : List IndexScan) (kss : List (List (List Cell))) → Gave (scanned_keys prefix pairs t) zs kss → Each (IsKeyOf t) (keys_in_all kss)
      in_all zs [] g = tt
      in_all [] (ks ∷ kss) g = absurd g
      in_all (z ∷ zs) (ks ∷ kss) g = each_where (IsKeyOf t) (λ k. list_all (list_any (eq_by_cmp cells_cmp k)) kss) ks (keys_are prefix pairs t z ks g.0)

      by : (o : Option (List (List (List Cell)))) → of_each (scanned_keys prefix pairs t) ss ≡ o → option_map (λ kss. in_key_order (λ k. k) (keys_in_all kss)) o ≡ Some keys → Each (IsKeyOf t) keys
      by None e h = absurd (none-some keys h)
      by (Some kss) e h =
          subst (Each (IsKeyOf t)) (same_Some (in_key_order (λ k. k) (keys_in_all kss)) keys h)
          (in_key_order_from (λ k. k) (IsKeyOf t) (keys_in_all kss) (in_all ss kss (gave (scanned_keys prefix pairs t) ss kss e)))

  module _ (rise : Rise pairs) where
    -- those of a fetch that rises do
    pub source_rises : (s : Source) → SourceRises s → (keys : List (List Cell)) → source_keys prefix pairs t s ≡ Some keys → Pairwise (λ x y. cells_cmp x y ≡ Less) keys
    source_rises (one s) rises keys means = keys_rise prefix pairs t s rises rise keys means
    source_rises (intersection ss) rises keys means = by (of_each (scanned_keys prefix pairs t) ss) means
      where
        by : (o : Option (List (List (List Cell)))) → option_map (λ kss. in_key_order (λ k. k) (keys_in_all kss)) o ≡ Some keys → Pairwise (λ x y. cells_cmp x y ≡ Less) keys
        by None h = absurd (none-some keys h)
        by (Some kss) h = subst (Pairwise (λ x y. cells_cmp x y ≡ Less)) (same_Some (in_key_order (λ k. k) (keys_in_all kss)) keys h) (in_key_order_rising (λ k. k) (keys_in_all kss))

    -- ---- rows

    scan_rises : (s : Scan) → s.reverse ≡ false → (rows : List Record) → node_rows prefix pairs t (scan s) ≡ Some rows → KeysRise rows
    scan_rises s forward rows means =
        let range = behind (records_prefix prefix t.number) s.range in
        let found = pairs_scanned range s.reverse pairs in
        pairwise_gave (stored_record prefix t) (λ p q. bytes_cmp p.0 q.0 ≡ Less) KeyLess found rows
        (λ p q r w m n e f less.
        let u = record_read prefix t p r e in
        let v = record_read prefix t q w f in
        key_less prefix t p.0 q.0 r w u v (sym (keys_order prefix t.number (key_cells r) (key_cells w) u.stored v.stored) ∙ (λ i. bytes_cmp (sym u.is i) (sym v.is i)) ∙ less))
        (gave (stored_record prefix t) found rows means) (pairs_rise range s.reverse pairs forward rise)

    fetch_rises : (s : Source) → SourceRises s → (rows : List Record) → node_rows prefix pairs t (fetch s) ≡ Some rows → KeysRise rows
    fetch_rises s rises rows means = by (source_keys prefix pairs t s) refl means
      where
        by : (o : Option (List (List Cell))) → source_keys prefix pairs t s ≡ o → option_and_then (of_each (fetched prefix pairs t)) o ≡ Some rows → KeysRise rows
        by None e h = absurd (none-some rows h)
        by (Some keys) e h =
            let own = source_are s keys e in
            pairwise_gave (fetched prefix pairs t) (λ x y. cells_cmp x y ≡ Less) KeyLess keys rows
            (λ x y r w m n f g less. fetched_less x y (each_member (IsKeyOf t) own m) (each_member (IsKeyOf t) own n) r w f g less)
            (gave (fetched prefix pairs t) keys rows h) (source_rises s rises keys e)

    filtered_rises : (p : Record → Bool) (o : Option (List Record)) (rows : List Record) → ((xs : List Record) → o ≡ Some xs → KeysRise xs) → option_map (filter p) o ≡ Some rows → KeysRise rows
    filtered_rises p None rows more h = absurd (none-some rows h)
    filtered_rises p (Some xs) rows more h = subst KeysRise (same_Some (filter p xs) rows h) (pairwise_where KeyLess p xs (more xs refl))

    -- the first of each key of rows that rise are all of them
    firsts_rise : (xs : List Record) → KeysRise xs → KeysRise (first_of_each primary_cells xs)
    firsts_rise [] k = tt
    firsts_rise (x ∷ xs) k = (
      each_where (KeyLess x) (λ y. not (eq_by_cmp cells_cmp (primary_cells x) (primary_cells y))) (first_of_each primary_cells xs) (first_of_each_from primary_cells (KeyLess x) xs k.0),
      pairwise_where KeyLess (λ y. not (eq_by_cmp cells_cmp (primary_cells x) (primary_cells y))) (first_of_each primary_cells xs) (firsts_rise xs k.1),
    )

    distinct_rises : (o : Option (List Record)) (rows : List Record) → ((xs : List Record) → o ≡ Some xs → KeysRise xs) → option_map (first_of_each primary_cells) o ≡ Some rows → KeysRise rows
    distinct_rises None rows more h = absurd (none-some rows h)
    distinct_rises (Some xs) rows more h = subst KeysRise (same_Some (first_of_each primary_cells xs) rows h) (firsts_rise xs (more xs refl))

    union_rises : (o : Option (List Record)) (rows : List Record) → option_map (in_key_order primary_cells) o ≡ Some rows → KeysRise rows
    union_rises None rows h = absurd (none-some rows h)
    union_rises (Some xs) rows h = subst KeysRise (same_Some (in_key_order primary_cells xs) rows h) (in_key_order_rising primary_cells xs)

    -- ROWS: the rows of a node that rises by its form do
    pub rows_rise : (n : Node) → Rises n → (rows : List Record) → node_rows prefix pairs t n ≡ Some rows → KeysRise rows
    rows_rise (scan s) rises rows means = scan_rises s rises rows means
    rows_rise (fetch s) rises rows means = fetch_rises s rises rows means
    rows_rise (filtered f n) rises rows means = filtered_rises (selects f) (node_rows prefix pairs t n) rows (λ xs e. rows_rise n rises xs e) means
    rows_rise (union ns) rises rows means = union_rises (all_rows prefix pairs t ns) rows means
    rows_rise (unordered_union ns) rises rows means = absurd rises
    rows_rise (distinct n) rises rows means = distinct_rises (node_rows prefix pairs t n) rows (λ xs e. rows_rise n rises xs e) means

    -- ---- parts

    -- the lists are the rows of the parts, one for each, and rise
    abbrev pub AreRowsOf : Nodes → List (List Record) → Type 0
    AreRowsOf no_nodes [] = Unit {0}
    AreRowsOf no_nodes (rows ∷ more) = ⊥
    AreRowsOf (node n ns) [] = ⊥
    AreRowsOf (node n ns) (rows ∷ more) = (node_rows prefix pairs t n ≡ Some rows) × KeysRise rows × AreRowsOf ns more

    -- PARTS: where each part rises by its form, the rows of all parts are lists that rise, one after the other
    pub parts_rise : (ns : Nodes) → PartsRise ns → (rows : List Record) → all_rows prefix pairs t ns ≡ Some rows → (parts : List (List Record)) × AreRowsOf ns parts × (rows ≡ flat_map (λ part. part) parts)
    parts_rise no_nodes rises rows means = ([], tt, same_Some rows [] (sym means))
    parts_rise (node n ns) rises rows means = by (node_rows prefix pairs t n) (all_rows prefix pairs t ns) refl refl (λ more e. parts_rise ns rises.1 more e) means
      where
        by : (o : Option (List Record)) (p : Option (List Record)) → node_rows prefix pairs t n ≡ o → all_rows prefix pairs t ns ≡ p →
            ((more : List Record) → all_rows prefix pairs t ns ≡ Some more → (parts : List (List Record)) × AreRowsOf ns parts × (more ≡ flat_map (λ part. part) parts)) →
            option_map (λ q. q.0 ++ q.1) (option_zip o p) ≡ Some rows → (parts : List (List Record)) × AreRowsOf (node n ns) parts × (rows ≡ flat_map (λ part. part) parts)
        by None p e f go h = absurd (none-some rows h)
        by (Some xs) None e f go h = absurd (none-some rows h)
        by (Some xs) (Some ys) e f go h =
            let later = go ys f in
            (xs ∷ later.0, (e, rows_rise n rises.0 xs e, later.1), sym (same_Some (xs ++ ys) rows h) ∙ ap (λ w. xs ++ w) later.2)
