-- What happens while something is read bit by bit: which ranges are read, what is found in between, and which pair
-- shows damage.
use Rattle.std.specs.Prelude.{ℕ, Bool, not, List, [], ◌∷◌, ◌++◌, map, Option, Some, None, Ok, Err, if◌then◌else◌}
use Rattle.std.specs.FinMap.Entries.{find}
use Rattle.std.specs.Ordering.{eq_by_cmp, match_ordering}
use Rattle.tuple_codec.specs.Order.{bytes_cmp}
use Rattle.kv_core.specs.Range.{KeyRange, point}
use Rattle.kv_core.specs.Read.{range_read}
use Rattle.txn.specs.Cursor.{behind_last}
use Rattle.txn.specs.declared.cursor.TheConstants.{BATCH}
use Rattle.metadata.specs.declared.cells.Cell.{Cell}
use Rattle.metadata.specs.declared.definition.TypeDefinition.{TypeDefinition}
use Rattle.metadata.specs.Cell.{items_of}
use Rattle.metadata.specs.Layout.{Pair, entries_prefix, record_key, records_prefix}
use Rattle.metadata.specs.Order.{cells_cmp}
use Rattle.metadata.specs.Record.{Record}
use Rattle.query.specs.Truth.{selects}
use Rattle.planner.specs.Layout.{primary_cells, stored_record}
use Rattle.planner.specs.Plan.{IndexScan, Node, Nodes, Scan, Source, distinct, fetch, filtered, intersection}
use Rattle.planner.specs.Plan.{no_nodes, node, one, scan, union, unordered_union}
use Rattle.plan_exec.specs.Reads.{PlanRead, PlanReading, batches, made_of, pairs_within, read_first, scan_range}
use Rattle.plan_exec.specs.Reads.{stored_entry, without_reads}
use Rattle.plan_exec.specs.Entry.{Entry}

-- a range is read, something is found, or a pair with this key is damaged
pub data Event (A : Type 0) : Type 0 where
  reads : PlanRead → Event A
  finds : A → Event A
  fails : List ℕ → Event A

-- a course of events, in their order
abbrev pub Course : Type 0 → Type 0
Course A = List (Event A)

-- what is read through the first damage, and all that is found, or the key of that damage
abbrev pub outcome_of : {A : Type 0} → Course A → PlanReading (List A)
outcome_of [] = without_reads (Ok [])
outcome_of (reads read ∷ course) = read_first read (outcome_of course)
outcome_of (finds a ∷ course) = made_of (λ more. a ∷ more) (outcome_of course)
outcome_of (fails key ∷ course) = without_reads (Err key)

-- what is found before the first damage
abbrev pub found_before : {A : Type 0} → Course A → List A
found_before [] = []
found_before (reads read ∷ course) = found_before course
found_before (finds a ∷ course) = a ∷ found_before course
found_before (fails key ∷ course) = []

-- a course in which something happens for each thing found
abbrev pub for_each : {A B : Type 0} → (A → Course B) → Course A → Course B
for_each f [] = []
for_each f (reads read ∷ course) = reads read ∷ for_each f course
for_each f (finds a ∷ course) = f a ++ for_each f course
for_each f (fails key ∷ course) = fails key ∷ []

-- two courses that find things by rising keys
module _ {A : Type 0} (key : A → List Cell) where
  -- the head of one course is known, and what follows it is merged by `rest` with what is left of the other one
  abbrev pub merged_head : A → (Course A → Course A) → Course A → Course A
  merged_head a rest [] = finds a ∷ rest []
  merged_head a rest (reads read ∷ other) = reads read ∷ merged_head a rest other
  merged_head a rest (finds b ∷ other) =
      match_ordering (cells_cmp (key a) (key b)) (finds a ∷ rest (finds b ∷ other)) (finds b ∷ rest other)
      (finds b ∷ merged_head a rest other)
  merged_head a rest (fails k ∷ other) = fails k ∷ []

  -- MERGED: each course goes on until its head is known, the first one first; the lower head is found then, and of two
  -- with the same key the second one alone
  abbrev pub merged : Course A → Course A → Course A
  merged [] other = other
  merged (reads read ∷ course) other = reads read ∷ merged course other
  merged (finds a ∷ course) other = merged_head a (merged course) other
  merged (fails k ∷ course) other = fails k ∷ []

-- what a course reads to its end, without what it finds
abbrev pub only_reads : {A B : Type 0} → Course A → Course B
only_reads course = for_each (λ a. []) course

-- courses that find things by rising keys, of which those are wanted whose keys both have
module _ {A B : Type 0} (key : A → List Cell) (other_key : B → List Cell) where
  abbrev pub joined_head : A → Course A → (Course B → Course A) → Course B → Course A
  joined_head a course rest [] = only_reads course
  joined_head a course rest (reads read ∷ other) = reads read ∷ joined_head a course rest other
  joined_head a course rest (finds b ∷ other) =
      match_ordering (cells_cmp (key a) (other_key b)) (rest (finds b ∷ other)) (finds a ∷ rest other)
      (joined_head a course rest other)
  joined_head a course rest (fails k ∷ other) = fails k ∷ []

  -- JOINED: each course goes on until its head is known, the first one first; the lower head is dropped then, and of
  -- two with the same key the first one is found; where one has ended the other one is read to its end
  abbrev pub joined : Course A → Course B → Course A
  joined [] other = only_reads other
  joined (reads read ∷ course) other = reads read ∷ joined course other
  joined (finds a ∷ course) other = joined_head a course (joined course) other
  joined (fails k ∷ course) other = fails k ∷ []

-- all courses of a list joined, the first one with those after it
abbrev pub all_joined : {A : Type 0} → (A → List Cell) → List (Course A) → Course A
all_joined key [] = []
all_joined key (course ∷ []) = course
all_joined key (course ∷ other ∷ courses) = joined key key course (all_joined key (other ∷ courses))

-- what is made of something, or else its key is damaged
abbrev pub found_or : {A : Type 0} → List ℕ → Option A → Course A
found_or key None = fails key ∷ []
found_or key (Some a) = finds a ∷ []

-- what is kept of what a course finds
abbrev pub kept_course : {A : Type 0} → (A → Bool) → Course A → Course A
kept_course keeps course = for_each (λ a. if keeps a then finds a ∷ [] else []) course

-- what a course finds, without that whose key stood before
abbrev pub first_course : {A : Type 0} → (A → List Cell) → Course A → Course A
first_course key [] = []
first_course key (reads read ∷ course) = reads read ∷ first_course key course
first_course key (finds a ∷ course) =
    finds a ∷ kept_course (λ b. not (eq_by_cmp cells_cmp (key a) (key b))) (first_course key course)
first_course key (fails k ∷ course) = fails k ∷ []

-- the batches of a range, in one direction: each is asked for as what is left of the range, and kept as read through
-- its last pair; its pairs are found then
abbrev pub batches_course : Bool → KeyRange → List (List Pair) → Course Pair
batches_course reversed range [] = []
batches_course reversed range (batch ∷ more) =
    reads (record { asked = range; added = range_read range BATCH reversed batch })
    ∷ map (λ pair. finds pair) batch ++ batches_course reversed (behind_last range reversed batch) more

-- a range read in batches
abbrev pub range_course : Bool → KeyRange → List Pair → Course Pair
range_course reversed range pairs = batches_course reversed range (batches (pairs_within range reversed pairs))

-- the pairs of the map in key order, the store's prefix and its type
module _ (prefix : List ℕ) (pairs : List Pair) (t : TypeDefinition) where
  abbrev pub scan_course : Scan → Course Record
  scan_course s =
      for_each (λ pair. found_or pair.0 (stored_record prefix t pair))
      (range_course s.reverse (scan_range (records_prefix prefix t.number) s.range) pairs)

  abbrev pub entries_course : IndexScan → Course Entry
  entries_course s =
      for_each (λ pair. found_or pair.0 (stored_entry prefix t s.index pair))
      (range_course s.reverse (scan_range (entries_prefix prefix s.index.number) s.range) pairs)

  -- the record of an entry by what stands at its key: where nothing does, the entry is damaged
  abbrev pub record_there : Entry → Option (List ℕ) → Course Record
  record_there entry None = fails entry.key ∷ []
  record_there entry (Some value) =
      let at = record_key prefix (items_of entry.primary_key) in found_or at (stored_record prefix t (at, value))

  abbrev pub record_course : Entry → Course Record
  record_course entry =
      let at = record_key prefix (items_of entry.primary_key) in
      reads (record { asked = point at; added = point at }) ∷ record_there entry (find bytes_cmp at pairs)

  -- the entries of a scan, or those of the first scan with a primary key that all scans have
  abbrev pub source_course : Source → Course Entry
  source_course (one s) = entries_course s
  source_course (intersection ss) = all_joined (λ (e : Entry). e.primary_key) (map entries_course ss)

  -- the records of a source's entries, each read once its entry is found
  abbrev pub fetch_course : Source → Course Record
  fetch_course s = for_each record_course (source_course s)

  abbrev mutual
    -- a step
    pub node_course : Node → Course Record
    node_course (scan s) = scan_course s
    node_course (fetch s) = fetch_course s
    node_course (filtered f n) = kept_course (selects f) (node_course n)
    node_course (union ns) = merged_course ns
    node_course (unordered_union ns) = nodes_course ns
    node_course (distinct n) = first_course primary_cells (node_course n)

    -- steps merged by their records' primary keys
    pub merged_course : Nodes → Course Record
    merged_course no_nodes = []
    merged_course (node n ns) = merged primary_cells (node_course n) (merged_course ns)

    -- steps one after the other
    pub nodes_course : Nodes → Course Record
    nodes_course no_nodes = []
    nodes_course (node n ns) = node_course n ++ nodes_course ns
