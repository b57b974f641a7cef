-- What a plan gives over the pairs of a database map, as whole lists. A pair that isn't of the written form, or an
-- entry without its record, leaves it without a meaning.
use Rattle.std.specs.Prelude.{ℕ, Bool, not, List, [], ◌∷◌, ◌++◌, filter, reverse, Option, Some, option_map}
use Rattle.std.specs.Prelude.{option_and_then, if◌then◌else◌}
use Rattle.std.specs.List.{list_any, list_all}
use Rattle.std.specs.Option.{option_zip}
use Rattle.std.specs.Ordering.{match_ordering, eq_by_cmp}
use Rattle.std.specs.FinMap.Entries.{find}
use Rattle.metadata.specs.declared.cells.Cell.{Cell}
use Rattle.metadata.specs.declared.definition.TypeDefinition.{TypeDefinition}
use Rattle.metadata.specs.Cell.{items_of}
use Rattle.metadata.specs.Layout.{Pair, entries_prefix, record_key, records_prefix}
use Rattle.metadata.specs.Record.{Record}
use Rattle.tuple_codec.specs.Order.{bytes_cmp}
use Rattle.metadata.specs.Order.{cells_cmp}
use Rattle.query.specs.Truth.{selects}
use Rattle.planner.specs.Range.{PlanRange, range_has, behind}
use Rattle.planner.specs.Plan.{Scan, IndexScan, Source, one, intersection, Node, scan, fetch, filtered, union}
use Rattle.planner.specs.Plan.{unordered_union, distinct, Nodes, no_nodes, node, Plan}
use Rattle.planner.specs.Layout.{entry_primary_key, primary_cells, stored_record}

-- what h gives of each, where it gives something of all
abbrev pub of_each : {A B : Type 0} → (A → Option B) → List A → Option (List B)
of_each h [] = Some []
of_each h (x ∷ xs) = option_map (λ p. p.0 ∷ p.1) (option_zip (h x) (of_each h xs))

-- the pairs in a range, turned round in reverse
abbrev pub pairs_scanned : PlanRange → Bool → List Pair → List Pair
pairs_scanned range reversed pairs =
    let found = filter (λ p. range_has range p.0) pairs in
    if reversed then reverse found else found

-- an element put in key order, unless one with its key stands there
abbrev pub placed_by_key : {X : Type 0} → (X → List Cell) → X → List X → List X
placed_by_key key x [] = x ∷ []
placed_by_key key x (y ∷ ys) =
    match_ordering (cells_cmp (key x) (key y)) (x ∷ y ∷ ys) (y ∷ ys) (y ∷ placed_by_key key x ys)

-- the elements in key order, each key once
abbrev pub in_key_order : {X : Type 0} → (X → List Cell) → List X → List X
in_key_order key [] = []
in_key_order key (x ∷ xs) = placed_by_key key x (in_key_order key xs)

-- the elements without those whose key stood before
abbrev pub first_of_each : {X : Type 0} → (X → List Cell) → List X → List X
first_of_each key [] = []
first_of_each key (x ∷ xs) = x ∷ filter (λ y. not (eq_by_cmp cells_cmp (key x) (key y))) (first_of_each key xs)

-- the keys that all lists have
abbrev pub keys_in_all : List (List (List Cell)) → List (List Cell)
keys_in_all [] = []
keys_in_all (keys ∷ more) = filter (λ k. list_all (list_any (eq_by_cmp cells_cmp k)) more) keys

-- the pairs of the map in key order, the store's prefix and its type
module _ (prefix : List ℕ) (pairs : List Pair) (t : TypeDefinition) where
  abbrev pub scanned : Scan → Option (List Record)
  scanned s =
      of_each (stored_record prefix t) (pairs_scanned (behind (records_prefix prefix t.number) s.range) s.reverse pairs)

  abbrev pub scanned_keys : IndexScan → Option (List (List Cell))
  scanned_keys s = of_each (entry_primary_key prefix t s.index)
      (pairs_scanned (behind (entries_prefix prefix s.index.number) s.range) s.reverse pairs)

  -- the primary keys that a fetch is given
  abbrev pub source_keys : Source → Option (List (List Cell))
  source_keys (one s) = scanned_keys s
  source_keys (intersection ss) = option_map (λ ks. in_key_order (λ k. k) (keys_in_all ks)) (of_each scanned_keys ss)

  -- the record with a primary key
  abbrev pub fetched : List Cell → Option Record
  fetched key = option_and_then (λ value. stored_record prefix t (record_key prefix (items_of key), value))
      (find bytes_cmp (record_key prefix (items_of key)) pairs)

  abbrev mutual
    -- the records that a node gives, in order
    pub node_rows : Node → Option (List Record)
    node_rows (scan s) = scanned s
    node_rows (fetch s) = option_and_then (of_each fetched) (source_keys s)
    node_rows (filtered f n) = option_map (filter (selects f)) (node_rows n)
    node_rows (union ns) = option_map (in_key_order primary_cells) (all_rows ns)
    node_rows (unordered_union ns) = all_rows ns
    node_rows (distinct n) = option_map (first_of_each primary_cells) (node_rows n)

    -- the records of all parts, one part after the other
    pub all_rows : Nodes → Option (List Record)
    all_rows no_nodes = Some []
    all_rows (node n ns) = option_map (λ p. p.0 ++ p.1) (option_zip (node_rows n) (all_rows ns))

-- the rows of a plan over the records of a type, if it has a meaning
abbrev pub rows_of : List ℕ → List Pair → TypeDefinition → Plan → Option (List Record)
rows_of prefix pairs t plan = node_rows prefix pairs t plan.root
