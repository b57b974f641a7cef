-- What the courses of a plan's steps find where nothing is damaged is the planner's meaning, where the steps merge only what
-- rises.
use Rattle.std.specs.Prelude.{◌≡◌, ℕ, List, [], ◌∷◌, ◌++◌, filter, map, Option, Some, None, option_map, refl}
use Rattle.std.specs.FinMap.Entries.{find}
use Rattle.std.specs.List.{AllByRecursion}
use Rattle.std.specs.Option.{option_and_then, option_zip}
use Rattle.std.specs.Result.{result_ok}
use Rattle.std.specs.declared.cmp.Ordering.TheVariants.{Less}
use Rattle.std.proofs.Common.{ap, sym, ◌∙◌}
use Rattle.tuple_codec.specs.Order.{bytes_cmp}
use Rattle.metadata.specs.declared.cells.Cell.{Cell}
use Rattle.metadata.specs.declared.definition.TypeDefinition.{TypeDefinition}
use Rattle.metadata.specs.Cell.{items_of}
use Rattle.metadata.specs.Layout.{Pair, entries_prefix, record_key, records_prefix}
use Rattle.metadata.specs.Order.{cells_cmp}
use Rattle.metadata.specs.Record.{Record}
use Rattle.query.specs.Truth.{selects}
use Rattle.planner.specs.Layout.{primary_cells, stored_record}
use Rattle.planner.specs.Meaning.{all_rows, fetched, first_of_each, in_key_order, keys_in_all, node_rows, of_each, pairs_scanned, scanned, scanned_keys, source_keys}
use Rattle.planner.specs.Plan.{IndexScan, Node, Nodes, Scan, Source, distinct, fetch, filtered, intersection, no_nodes, node, one, scan, union, unordered_union}
use Rattle.planner.specs.Range as planned
use Rattle.planner.specs.Rising.{EntriesRise, MergesEntries, MergesRising, PartsMerge, PartsRise, Rises}
use Rattle.planner.proofs.Lists.{Pairwise}
use Rattle.planner.proofs.Ranges.{Each}
use Rattle.planner.proofs.Rows.{IsRising}
use Rattle.planner.proofs.RisingKeys.{keys_rise, scans_rise}
use Rattle.planner.proofs.RisingRows.{rows_rise}
use Rattle.planner.proofs.Sorted.{Rise}
use Rattle.plan_exec.specs.Course.{Course, all_joined, entries_course, fetch_course, for_each, merged_course, node_course, nodes_course, outcome_of, record_course, record_there, scan_course}
use Rattle.plan_exec.specs.Reads.{stored_entry}
use Rattle.plan_exec.specs.Entry.{Entry}
use Rattle.plan_exec.proofs.AllJoined.{all_joined_ok, first_in_all, keys_first_in_all}
use Rattle.plan_exec.proofs.Courses.{found_append, outcome_ok}
use Rattle.plan_exec.proofs.CoursesFound.{first_ok, for_each_gives, found_or_ok, kept_ok, pairs_found}
use Rattle.plan_exec.proofs.InOrder.{order_from_rising, right_ordered, where_in_order}
use Rattle.plan_exec.proofs.Meanings.{each_map, each_same, keys_of, keys_ok, map_each}
use Rattle.plan_exec.proofs.MergedCourses.{FindsInOrder, merged_ok, put_in_order}
use Rattle.plan_exec.proofs.Shares.{all_have, itself}

-- ---- keys

-- the primary key in an entry
abbrev pub key_of : Entry → List Cell
key_of e = e.primary_key

-- things rise by their keys where the keys do
rising_by_keys : {X : Type 0} (key : X → List Cell) (xs : List X) → Pairwise (λ a b. cells_cmp a b ≡ Less) (map key xs) → IsRising key xs
rising_by_keys key [] p = tt
rising_by_keys {X = X} key (x ∷ xs) p = (each xs p.0, rising_by_keys key xs p.1)
  where
    each : (ys : List X) → Each (λ b. cells_cmp (key x) b ≡ Less) (map key ys) → Each (λ y. cells_cmp (key x) (key y) ≡ Less) ys
    each [] e = tt
    each (y ∷ ys) e = (e.0, each ys e.1)

-- where the keys of each list rise, those that all have are in key order already
in_all_ordered : (lists : List (List (List Cell))) → Each (Pairwise (λ a b. cells_cmp a b ≡ Less)) lists → in_key_order itself (keys_in_all lists) ≡ keys_in_all lists
in_all_ordered [] e = refl
in_all_ordered (keys ∷ more) e = where_in_order itself (all_have more) keys (order_from_rising itself keys e.0)

-- of one course behind another both things are found
found_behind : {A : Type 0} (course other : Course A) → result_ok (outcome_of (course ++ other)).found ≡ option_map (λ p. p.0 ++ p.1) (option_zip (result_ok (outcome_of course).found) (result_ok (outcome_of other).found))
found_behind course other = outcome_ok (course ++ other) ∙ found_append course other ∙ (λ i. option_map (λ p. p.0 ++ p.1) (option_zip (sym (outcome_ok course) i) (sym (outcome_ok other) i)))

-- the pairs of the map in key order, the store's prefix and its type
module _ (prefix : List ℕ) (pairs : List Pair) (t : TypeDefinition) where
  -- ---- scans

  -- SCAN: the records that its pairs stand for are found
  pub scan_course_ok : (s : Scan) → result_ok (outcome_of (scan_course prefix pairs t s)).found ≡ scanned prefix pairs t s
  scan_course_ok s = pairs_found (stored_record prefix t) s.reverse (records_prefix prefix t.number) s.range pairs

  -- ENTRIES: those found have the primary keys that the scan gives
  pub entries_course_ok : (s : IndexScan) → option_map keys_of (result_ok (outcome_of (entries_course prefix pairs t s)).found) ≡ scanned_keys prefix pairs t s
  entries_course_ok s =
      ap (option_map keys_of) (pairs_found (stored_entry prefix t s.index) s.reverse (entries_prefix prefix s.index.number) s.range pairs)
      ∙ keys_ok prefix pairs t s.index (pairs_scanned (planned.behind (entries_prefix prefix s.index.number) s.range) s.reverse pairs)

  -- ---- fetches

  -- RECORD: that of an entry is the one with its primary key
  pub record_course_ok : (entry : Entry) → result_ok (outcome_of (record_course prefix pairs t entry)).found ≡ option_map (λ r. r ∷ []) (fetched prefix pairs t entry.primary_key)
  record_course_ok entry = by (find bytes_cmp (record_key prefix (items_of entry.primary_key)) pairs)
    where
      by : (o : Option (List ℕ)) →
          result_ok (outcome_of (record_there prefix pairs t entry o)).found ≡ option_map (λ r. r ∷ []) (option_and_then (λ value. stored_record prefix t (record_key prefix (items_of entry.primary_key), value)) o)
      by None = refl
      by (Some value) = found_or_ok (record_key prefix (items_of entry.primary_key)) (stored_record prefix t (record_key prefix (items_of entry.primary_key), value))

  -- those of the entries that a course finds are the ones with their primary keys
  records_found : (course : Course Entry) → result_ok (outcome_of (for_each (record_course prefix pairs t) course)).found ≡ option_and_then (of_each (fetched prefix pairs t)) (option_map keys_of (result_ok (outcome_of course).found))
  records_found course = for_each_gives (record_course prefix pairs t) (λ e. fetched prefix pairs t e.primary_key) record_course_ok course ∙ by (result_ok (outcome_of course).found)
    where
      by : (o : Option (List Entry)) → option_and_then (of_each (λ (e : Entry). fetched prefix pairs t e.primary_key)) o ≡ option_and_then (of_each (fetched prefix pairs t)) (option_map keys_of o)
      by None = refl
      by (Some es) = sym (each_map (fetched prefix pairs t) key_of es)

  module _ (rise : Rise pairs) where
    -- IN ORDER: a scan whose entries rise finds them in key order
    pub entries_in_order : (s : IndexScan) → EntriesRise s → FindsInOrder key_of (entries_course prefix pairs t s)
    entries_in_order s rises es is =
        order_from_rising key_of es (rising_by_keys key_of es (keys_rise prefix pairs t s rises rise (keys_of es) (sym (entries_course_ok s) ∙ ap (option_map keys_of) is)))

    -- so do all of an intersection
    pub all_in_order : (ss : List IndexScan) → AllByRecursion EntriesRise ss → Each (FindsInOrder key_of) (map (entries_course prefix pairs t) ss)
    all_in_order [] r = tt
    all_in_order (s ∷ ss) r = (entries_in_order s r.0, all_in_order ss r.1)

    -- INTERSECTION: the entries found have the primary keys that all scans give
    pub joined_course_ok : (ss : List IndexScan) → MergesEntries (intersection ss) →
        option_map keys_of (result_ok (outcome_of (all_joined key_of (map (entries_course prefix pairs t) ss))).found) ≡ source_keys prefix pairs t (intersection ss)
    joined_course_ok ss rises =
        ap (option_map keys_of) (all_joined_ok key_of (map (entries_course prefix pairs t) ss) (all_in_order ss rises))
        ∙ ap (λ o. option_map keys_of (option_map (first_in_all key_of) o)) (each_map (λ c. result_ok (outcome_of c).found) (entries_course prefix pairs t) ss)
        ∙ keys_in (of_each (λ s. result_ok (outcome_of (entries_course prefix pairs t s)).found) ss)
        ∙ ap (option_map keys_in_all) keys_given
        ∙ ordered (of_each (scanned_keys prefix pairs t) ss) (λ lists is. scans_rise prefix pairs t rise ss rises lists is)
      where
        keys_in : (o : Option (List (List Entry))) → option_map keys_of (option_map (first_in_all key_of) o) ≡ option_map keys_in_all (option_map (map keys_of) o)
        keys_in None = refl
        keys_in (Some lists) = ap (λ keys. Some keys) (keys_first_in_all key_of lists)

        keys_given : option_map (map keys_of) (of_each (λ s. result_ok (outcome_of (entries_course prefix pairs t s)).found) ss) ≡ of_each (scanned_keys prefix pairs t) ss
        keys_given =
            map_each keys_of (λ s. result_ok (outcome_of (entries_course prefix pairs t s)).found) ss
            ∙ each_same (λ s. option_map keys_of (result_ok (outcome_of (entries_course prefix pairs t s)).found)) (scanned_keys prefix pairs t) entries_course_ok ss

        ordered : (o : Option (List (List (List Cell)))) → ((lists : List (List (List Cell))) → o ≡ Some lists → Each (Pairwise (λ a b. cells_cmp a b ≡ Less)) lists) →
            option_map keys_in_all o ≡ option_map (λ ks. in_key_order (λ k. k) (keys_in_all ks)) o
        ordered None r = refl
        ordered (Some lists) r = ap (λ keys. Some keys) (sym (in_all_ordered lists (r lists refl)))

    -- FETCH: the records with the source's primary keys are found
    pub fetch_course_ok : (s : Source) → MergesEntries s → result_ok (outcome_of (fetch_course prefix pairs t s)).found ≡ option_and_then (of_each (fetched prefix pairs t)) (source_keys prefix pairs t s)
    fetch_course_ok (one s) rises = records_found (entries_course prefix pairs t s) ∙ ap (option_and_then (of_each (fetched prefix pairs t))) (entries_course_ok s)
    fetch_course_ok (intersection ss) rises =
        records_found (all_joined key_of (map (entries_course prefix pairs t) ss)) ∙ ap (option_and_then (of_each (fetched prefix pairs t))) (joined_course_ok ss rises)

    -- ---- steps

    -- IN ORDER: a course that finds the rows of a step that rises finds them in key order
    pub rows_in_order : (n : Node) → Rises n → (course : Course Record) → result_ok (outcome_of course).found ≡ node_rows prefix pairs t n → FindsInOrder primary_cells course
    rows_in_order n rises course so rows is = order_from_rising primary_cells rows (rows_rise prefix pairs t rise n rises rows (sym so ∙ is))

    -- one step more is merged
    merged_next : (n : Node) (ns : Nodes) → Rises n → result_ok (outcome_of (node_course prefix pairs t n)).found ≡ node_rows prefix pairs t n →
        result_ok (outcome_of (merged_course prefix pairs t ns)).found ≡ option_map (in_key_order primary_cells) (all_rows prefix pairs t ns) →
        result_ok (outcome_of (merged_course prefix pairs t (node n ns))).found ≡ option_map (in_key_order primary_cells) (all_rows prefix pairs t (node n ns))
    merged_next n ns rises so more =
        merged_ok primary_cells (node_course prefix pairs t n) (merged_course prefix pairs t ns) (rows_in_order n rises (node_course prefix pairs t n) so)
        (λ rows is. put_in_order primary_cells (λ rs. rs) (all_rows prefix pairs t ns) rows (sym more ∙ is))
        ∙ (λ i. option_map (λ p. in_key_order primary_cells (p.0 ++ p.1)) (option_zip (so i) (more i)))
        ∙ by (node_rows prefix pairs t n) (all_rows prefix pairs t ns)
      where
        by : (o p : Option (List Record)) →
            option_map (λ q. in_key_order primary_cells (q.0 ++ q.1)) (option_zip o (option_map (in_key_order primary_cells) p)) ≡ option_map (in_key_order primary_cells) (option_map (λ q. q.0 ++ q.1) (option_zip o p))
        by None p = refl
        by (Some xs) None = refl
        by (Some xs) (Some ys) = ap (λ zs. Some zs) (right_ordered primary_cells xs ys)

    mutual
      -- MEANING: a step that merges only what rises finds its rows
      pub node_course_ok : (n : Node) → MergesRising n → result_ok (outcome_of (node_course prefix pairs t n)).found ≡ node_rows prefix pairs t n
      node_course_ok (scan s) m = scan_course_ok s
      node_course_ok (fetch s) m = fetch_course_ok s m
      node_course_ok (filtered f n) m = kept_ok (selects f) (node_course prefix pairs t n) ∙ ap (option_map (filter (selects f))) (node_course_ok n m)
      node_course_ok (union ns) m = merged_course_ok ns m.0 m.1
      node_course_ok (unordered_union ns) m = nodes_course_ok ns m
      node_course_ok (distinct n) m = first_ok primary_cells (node_course prefix pairs t n) ∙ ap (option_map (first_of_each primary_cells)) (node_course_ok n m)

      -- MERGED: steps that rise find the rows of all in key order
      pub merged_course_ok : (ns : Nodes) → PartsRise ns → PartsMerge ns → result_ok (outcome_of (merged_course prefix pairs t ns)).found ≡ option_map (in_key_order primary_cells) (all_rows prefix pairs t ns)
      merged_course_ok no_nodes r m = refl
      merged_course_ok (node n ns) r m = merged_next n ns r.0 (node_course_ok n m.0) (merged_course_ok ns r.1 m.1)

      -- BEHIND: steps one after the other find the rows of all
      pub nodes_course_ok : (ns : Nodes) → PartsMerge ns → result_ok (outcome_of (nodes_course prefix pairs t ns)).found ≡ all_rows prefix pairs t ns
      nodes_course_ok no_nodes m = refl
      nodes_course_ok (node n ns) m = found_behind (node_course prefix pairs t n) (nodes_course prefix pairs t ns) ∙ (λ i. option_map (λ p. p.0 ++ p.1) (option_zip (node_course_ok n m.0 i) (nodes_course_ok ns m.1 i)))
