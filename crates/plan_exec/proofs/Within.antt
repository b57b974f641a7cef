-- What a plan's execution reads lies in its scans, or is the key of a record to which an entry leads.
use Rattle.std.specs.Prelude.{◌≡◌, ℕ, zero, suc, ◌-◌, Bool, true, false, not, cond, ◌&&◌, nat_lt, List, [], ◌∷◌, ◌++◌, filter, length, map, reverse, Option, Some, None, option_map, All, Contains, refl}
use Rattle.std.specs.Cmp.{first_so, second_so}
use Rattle.std.specs.FinMap.Entries.{find}
use Rattle.std.specs.Ordering.{eq_by_cmp, match_ordering}
use Rattle.std.specs.declared.cmp.Ordering.{Ordering}
use Rattle.std.specs.declared.cmp.Ordering.TheVariants.{Less, Equal, Greater}
use Rattle.std.proofs.Common.{ap, sym, ◌∙◌, subst, arith, inl, inr}
use Rattle.std.proofs.lemmas.List.Elements.{Contains-append_left, Contains-append_right}
use Rattle.std.proofs.lemmas.Option.{none-some, same_Some}
use Rattle.tuple_codec.specs.Order.{bytes_cmp}
use Rattle.kv_core.specs.Bytes.{key_le, key_lt, next_key}
use Rattle.kv_core.specs.Range.{KeyRange, contains, point}
use Rattle.kv_core.specs.Read.{last_key, range_read}
use Rattle.kv_core.proofs.Order.{le_from, le_from_lt, le_refl, le_trans, less_self, lt_le_trans}
use Rattle.kv_core.proofs.Pairs.{next_least}
use Rattle.txn.specs.Cursor.{behind_last}
use Rattle.txn.specs.declared.cursor.TheConstants.{BATCH}
use Rattle.metadata.specs.declared.cells.Cell.{Cell}
use Rattle.metadata.specs.declared.definition.TypeDefinition.{TypeDefinition}
use Rattle.metadata.specs.declared.index.IndexDefinition.{IndexDefinition}
use Rattle.metadata.specs.Cell.{items_of}
use Rattle.metadata.specs.Layout.{Pair, record_key}
use Rattle.metadata.specs.Order.{cells_cmp}
use Rattle.query.specs.Truth.{selects}
use Rattle.planner.specs.Layout.{entry_primary_key, primary_cells, stored_record}
use Rattle.planner.specs.Match.{along, primary}
use Rattle.planner.specs.Plan.{IndexScan, Node, Nodes, Scan, Source, distinct, fetch, filtered, intersection, no_nodes, node, one, scan, union, unordered_union}
use Rattle.planner.specs.Range as planned
use Rattle.planner.specs.Scanned.{PathScan, along_index, scans_of, scans_of_all, source_scans}
use Rattle.planner.proofs.Lists.{contains_member, each_all}
use Rattle.planner.proofs.Ranges.{Each}
use Rattle.planner.proofs.Residual.{Member, each_from_members, each_map, each_of_map}
use Rattle.planner.proofs.Rows.{member_of_where}
use Rattle.planner.proofs.Scans.{member_of_turned}
use Rattle.plan_exec.specs.Course.{Course, all_joined, batches_course, entries_course, fails, finds, first_course, for_each, found_or, joined, joined_head, kept_course, merged, merged_course, merged_head, node_course, nodes_course, outcome_of, range_course, reads, record_course, record_there, scan_course, source_course}
use Rattle.plan_exec.specs.Executing.{ranges_added, ranges_asked}
use Rattle.plan_exec.specs.Handing.{reads_until}
use Rattle.plan_exec.specs.Reads.{PlanRead, batches, pairs_within, scan_range, stored_entry}
use Rattle.plan_exec.specs.Within.{IsOfScan, MayRead, PlansReadTheirScansUntil, PlansReadTheirScans, path_prefix, scan_has}
use Rattle.plan_exec.specs.Entry.{Entry}
use Rattle.plan_exec.proofs.InBatches.{flat, flat_cut}
use Rattle.plan_exec.proofs.KeyRanges.{same_within}

-- ---- courses each of whose reads, and each thing found, has a property

-- all reads have the one, and all things found the other
abbrev Every : {A : Type 0} → (PlanRead → Type 0) → (A → Type 0) → Course A → Type 0
Every P Q [] = Unit {0}
Every P Q (reads read ∷ course) = P read × Every P Q course
Every P Q (finds a ∷ course) = Q a × Every P Q course
Every P Q (fails key ∷ course) = Every P Q course

-- of what is found nothing is said
abbrev Anything : {A : Type 0} → A → Type 0
Anything a = Unit {0}

by_order : {A : Type 0} (R : A → Type 0) (o : Ordering) (x y z : A) → R x → R y → R z → R (match_ordering o x y z)
by_order R Less x y z f g h = f
by_order R Equal x y z f g h = g
by_order R Greater x y z f g h = h

module _ (P : PlanRead → Type 0) where
  every_append : {A : Type 0} (Q : A → Type 0) (course other : Course A) → Every P Q course → Every P Q other → Every P Q (course ++ other)
  every_append Q [] other e f = f
  every_append Q (reads read ∷ course) other e f = (e.0, every_append Q course other e.1 f)
  every_append Q (finds a ∷ course) other e f = (e.0, every_append Q course other e.1 f)
  every_append Q (fails key ∷ course) other e f = every_append Q course other e f

  every_for : {A B : Type 0} (Q : A → Type 0) (R : B → Type 0) (f : A → Course B) (course : Course A) → ((a : A) → Q a → Every P R (f a)) → Every P Q course → Every P R (for_each f course)
  every_for Q R f [] g e = tt
  every_for Q R f (reads read ∷ course) g e = (e.0, every_for Q R f course g e.1)
  every_for Q R f (finds a ∷ course) g e = every_append R (f a) (for_each f course) (g a e.0) (every_for Q R f course g e.1)
  every_for Q R f (fails key ∷ course) g e = tt

  every_kept : {A : Type 0} (Q : A → Type 0) (keeps : A → Bool) (course : Course A) → Every P Q course → Every P Q (kept_course keeps course)
  every_kept {A = A} Q keeps course e = every_for Q Q (λ a. cond (keeps a) (finds a ∷ []) []) course (λ a q. by a (keeps a) q) e
    where
      by : (a : A) (b : Bool) → Q a → Every P Q (cond b (finds a ∷ []) [])
      by a true q = (q, tt)
      by a false q = tt

  every_found : {A : Type 0} (Q : A → Type 0) (key : List ℕ) (o : Option A) → ((a : A) → o ≡ Some a → Q a) → Every P Q (found_or key o)
  every_found Q key None g = tt
  every_found Q key (Some a) g = (g a refl, tt)

  module _ {A : Type 0} (Q : A → Type 0) (key : A → List Cell) where
    every_merged_head : (a : A) (rest : Course A → Course A) → Q a → ((other : Course A) → Every P Q other → Every P Q (rest other)) → (other : Course A) → Every P Q other → Every P Q (merged_head key a rest other)
    every_merged_head a rest q g [] e = (q, g [] e)
    every_merged_head a rest q g (reads read ∷ other) e = (e.0, every_merged_head a rest q g other e.1)
    every_merged_head a rest q g (finds b ∷ other) e =
        by_order (Every P Q) (cells_cmp (key a) (key b)) (finds a ∷ rest (finds b ∷ other)) (finds b ∷ rest other) (finds b ∷ merged_head key a rest other)
        (q, g (finds b ∷ other) e) (e.0, g other e.1) (e.0, every_merged_head a rest q g other e.1)
    every_merged_head a rest q g (fails k ∷ other) e = tt

    every_merged : (course other : Course A) → Every P Q course → Every P Q other → Every P Q (merged key course other)
    every_merged [] other e f = f
    every_merged (reads read ∷ course) other e f = (e.0, every_merged course other e.1 f)
    every_merged (finds a ∷ course) other e f = every_merged_head a (merged key course) e.0 (λ more g. every_merged course more e.1 g) other f
    every_merged (fails k ∷ course) other e f = tt

    every_first : (course : Course A) → Every P Q course → Every P Q (first_course key course)
    every_first [] e = tt
    every_first (reads read ∷ course) e = (e.0, every_first course e.1)
    every_first (finds a ∷ course) e = (e.0, every_kept Q (λ b. not (eq_by_cmp cells_cmp (key a) (key b))) (first_course key course) (every_first course e.1))
    every_first (fails k ∷ course) e = tt

    every_joined_head : (a : A) (course : Course A) (rest : Course A → Course A) → Q a → Every P Q course → ((other : Course A) → Every P Q other → Every P Q (rest other)) →
        (other : Course A) → Every P Q other → Every P Q (joined_head key key a course rest other)
    every_joined_head a course rest q e g [] f = every_for Q Q (λ b. []) course (λ b r. tt) e
    every_joined_head a course rest q e g (reads read ∷ other) f = (f.0, every_joined_head a course rest q e g other f.1)
    every_joined_head a course rest q e g (finds b ∷ other) f =
        by_order (Every P Q) (cells_cmp (key a) (key b)) (rest (finds b ∷ other)) (finds a ∷ rest other) (joined_head key key a course rest other)
        (g (finds b ∷ other) f) (q, g other f.1) (every_joined_head a course rest q e g other f.1)
    every_joined_head a course rest q e g (fails k ∷ other) f = tt

    every_joined : (course other : Course A) → Every P Q course → Every P Q other → Every P Q (joined key key course other)
    every_joined [] other e f = every_for Q Q (λ b. []) other (λ b r. tt) f
    every_joined (reads read ∷ course) other e f = (e.0, every_joined course other e.1 f)
    every_joined (finds a ∷ course) other e f = every_joined_head a course (joined key key course) e.0 e.1 (λ more g. every_joined course more e.1 g) other f
    every_joined (fails k ∷ course) other e f = tt

    every_all_joined : (courses : List (Course A)) → Each (Every P Q) courses → Every P Q (all_joined key courses)
    every_all_joined [] e = tt
    every_all_joined (course ∷ []) e = e.0
    every_all_joined (course ∷ other ∷ courses) e = every_joined course (all_joined key (other ∷ courses)) e.0 (every_all_joined (other ∷ courses) e.1)

-- ---- a range that is read in batches

-- the pair is one of the map's in the range
abbrev IsIn : List Pair → KeyRange → Pair → Type 0
IsIn pairs range pair = Member pair pairs × (contains range pair.0 ≡ true)

pairs_in : (pairs : List Pair) (range : KeyRange) (reversed : Bool) → Each (IsIn pairs range) (pairs_within range reversed pairs)
pairs_in pairs range reversed = each_from_members (IsIn pairs range) (pairs_within range reversed pairs) (by reversed)
  where
    found : List Pair
    found = filter (λ (p : Pair). contains range p.0) pairs

    by : (b : Bool) (p : Pair) → Member p (cond b (reverse found) found) → IsIn pairs range p
    by true p m = elim (member_of_turned p found [] m) [ inl k ↦ member_of_where (λ (q : Pair). contains range q.0) p pairs k | inr k ↦ elim k [ ] ]
    by false p m = member_of_where (λ (q : Pair). contains range q.0) p pairs m

-- what holds of a key and of the keys of some pairs holds of the last one
of_last : (P : List ℕ → Type 0) (key : List ℕ) (pairs : List Pair) → P key → Each (λ (p : Pair). P p.0) pairs → P (last_key key pairs)
of_last P key [] start e = start
of_last P key (p ∷ pairs) start e = of_last P p.0 pairs e.0 e.1

each_front : {A : Type 0} (P : A → Type 0) (xs ys : List A) → Each P (xs ++ ys) → Each P xs
each_front P [] ys e = tt
each_front P (x ∷ xs) ys e = (e.0, each_front P xs ys e.1)

each_behind : {A : Type 0} (P : A → Type 0) (xs ys : List A) → Each P (xs ++ ys) → Each P ys
each_behind P [] ys e = e
each_behind P (x ∷ xs) ys e = each_behind P xs ys e.1

module _ (pairs : List Pair) (all : KeyRange) where
  -- the range lies within all of it, by its ends
  abbrev IsPart : KeyRange → Type 0
  IsPart range = (key_le all.begin range.begin ≡ true) × (key_le range.end all.end ≡ true)

  part_has : (range : KeyRange) (key : List ℕ) → IsPart range → contains range key ≡ true → contains all key ≡ true
  part_has range key (low, high) is = λ i.
      le_trans all.begin range.begin key low (first_so (key_le range.begin key) (key_lt key range.end) is) i
      && lt_le_trans key range.end all.end (second_so (key_le range.begin key) (key_lt key range.end) is) high i

  from_begin : (p : Pair) → IsIn pairs all p → key_le all.begin p.0 ≡ true
  from_begin p is = first_so (key_le all.begin p.0) (key_lt p.0 all.end) is.1

  before_end : (p : Pair) → IsIn pairs all p → key_lt p.0 all.end ≡ true
  before_end p is = second_so (key_le all.begin p.0) (key_lt p.0 all.end) is.1

  -- what is kept as read of a batch
  added_part : (reversed : Bool) (range : KeyRange) (batch : List Pair) → IsPart range → Each (IsIn pairs all) batch → IsPart (range_read range BATCH reversed batch)
  added_part reversed range [] part e = part
  added_part reversed range (p ∷ batch) part e = by (nat_lt (length (p ∷ batch)) BATCH) reversed
    where
      last : List ℕ
      last = last_key p.0 batch

      by : (few back : Bool) → IsPart (cond few range (cond back (record { begin = last; end = range.end }) (record { begin = range.begin; end = next_key last })))
      by true back = part
      by false true = (of_last (λ k. key_le all.begin k ≡ true) p.0 batch (from_begin p e.0) (each_map (IsIn pairs all) (λ q. key_le all.begin q.0 ≡ true) from_begin batch e.1), part.1)
      by false false = (
        part.0,
        le_from (next_key last) all.end (next_least last all.end (of_last (λ k. key_lt k all.end ≡ true) p.0 batch (before_end p e.0) (each_map (IsIn pairs all) (λ q. key_lt q.0 all.end ≡ true) before_end batch e.1))),
      )

  module _ (P : PlanRead → Type 0) (parts : (asked added : KeyRange) → IsPart asked → IsPart added → P (record { asked = asked; added = added })) where
    found_each : (batch : List Pair) → Each (IsIn pairs all) batch → Every P (IsIn pairs all) (map (λ pair. finds pair) batch)
    found_each [] e = tt
    found_each (p ∷ batch) e = (e.0, found_each batch e.1)

    forward : (range : KeyRange) (pieces : List (List Pair)) → IsPart range → Each (IsIn pairs all) (flat pieces) → Every P (IsIn pairs all) (batches_course false range pieces)
    forward range [] part e = tt
    forward range (batch ∷ more) part e =
        let these : Each (IsIn pairs all) batch = each_front (IsIn pairs all) batch (flat more) e in
        let last : List ℕ = last_key range.begin batch in
        let low : key_le all.begin last ≡ true = of_last (λ k. key_le all.begin k ≡ true) range.begin batch part.0 (each_map (IsIn pairs all) (λ q. key_le all.begin q.0 ≡ true) from_begin batch these) in (
          parts range (range_read range BATCH false batch) part (added_part false range batch part these),
          every_append P (IsIn pairs all) (map (λ pair. finds pair) batch) (batches_course false (behind_last range false batch) more) (found_each batch these)
              (forward (behind_last range false batch) more (le_trans all.begin last (next_key last) low (le_from_lt last (next_key last) (less_self last)), part.1) (each_behind (IsIn pairs all) batch (flat more) e)),
        )

    backward : (range : KeyRange) (pieces : List (List Pair)) → IsPart range → key_le range.begin all.end ≡ true → Each (IsIn pairs all) (flat pieces) → Every P (IsIn pairs all) (batches_course true range pieces)
    backward range [] part some e = tt
    backward range (batch ∷ more) part some e =
        let these : Each (IsIn pairs all) batch = each_front (IsIn pairs all) batch (flat more) e in
        let high : key_le (last_key range.begin batch) all.end ≡ true =
        of_last (λ k. key_le k all.end ≡ true) range.begin batch some (each_map (IsIn pairs all) (λ q. key_le q.0 all.end ≡ true) (λ q is. le_from_lt q.0 all.end (before_end q is)) batch these) in (
          parts range (range_read range BATCH true batch) part (added_part true range batch part these),
          every_append P (IsIn pairs all) (map (λ pair. finds pair) batch) (batches_course true (behind_last range true batch) more) (found_each batch these)
              (backward (behind_last range true batch) more (part.0, high) some (each_behind (IsIn pairs all) batch (flat more) e)),
        )

    every_range : (reversed : Bool) → key_le all.begin all.end ≡ true → Every P (IsIn pairs all) (range_course reversed all pairs)
    every_range reversed some = by reversed (subst (Each (IsIn pairs all)) (sym (flat_cut (BATCH - 1) (BATCH - 1) (pairs_within all reversed pairs))) (pairs_in pairs all reversed))
      where
        whole : IsPart all
        whole = (le_refl all.begin, le_refl all.end)

        by : (back : Bool) → Each (IsIn pairs all) (flat (batches (pairs_within all back pairs))) → Every P (IsIn pairs all) (batches_course back all (batches (pairs_within all back pairs)))
        by true e = backward all (batches (pairs_within all true pairs)) whole some e
        by false e = forward all (batches (pairs_within all false pairs)) whole e

-- ---- the steps of a plan

-- the range that is read for a scan isn't turned round
range_some : (key : List ℕ) (range : planned.PlanRange) → key_le (scan_range key range).begin (scan_range key range).end ≡ true
range_some key range = by (key_lt (key ++ range.begin) (key ++ range.end)) refl
  where
    by : (b : Bool) → key_lt (key ++ range.begin) (key ++ range.end) ≡ b → key_le (key ++ range.begin) (cond b (key ++ range.end) (key ++ range.begin)) ≡ true
    by true is = le_from_lt (key ++ range.begin) (key ++ range.end) is
    by false is = le_refl (key ++ range.begin)

-- these scans are among others
abbrev AreAmong : List PathScan → List PathScan → Type 0
AreAmong some scans = (s : PathScan) → Contains some s → Contains scans s

module _ (prefix : List ℕ) (pairs : List Pair) (t : TypeDefinition) (scans : List PathScan) where
  -- what a read asks for may be read, and what it keeps
  abbrev MayBoth : PlanRead → Type 0
  MayBoth read = MayRead prefix pairs t scans read.asked × MayRead prefix pairs t scans read.added

  -- the range that is read for a scan
  abbrev whole_range : PathScan → KeyRange
  whole_range s = scan_range (path_prefix prefix t s.path) s.range

  -- an entry that a scan has
  record Leads (entry : Entry) : Type 0 where
    pub scan : PathScan
    pub planned : Contains scans scan
    pub index : IndexDefinition
    pub path : scan.path ≡ along index
    pub pair : Pair
    pub there : Contains pairs pair
    pub within : scan_has prefix t scan pair.0 ≡ true
    pub leads : entry_primary_key prefix t index pair ≡ Some entry.primary_key

  has_key : (s : PathScan) (key : List ℕ) → contains (whole_range s) key ≡ true → scan_has prefix t s key ≡ true
  has_key s key is = sym (same_within (path_prefix prefix t s.path) s.range key) ∙ is

  scan_reads : (s : PathScan) → Contains scans s → (asked added : KeyRange) → IsPart pairs (whole_range s) asked → IsPart pairs (whole_range s) added → MayBoth (record { asked = asked; added = added })
  scan_reads s m asked added p q = (inl (of asked p), inl (of added q))
    where
      of : (range : KeyRange) → IsPart pairs (whole_range s) range → IsOfScan prefix t scans range
      of range part = record { scan = s; planned = m; within = λ key is. has_key s key (part_has pairs (whole_range s) range key part is) }

  every_pair : (s : PathScan) → Contains scans s → (reversed : Bool) → Every MayBoth (IsIn pairs (whole_range s)) (range_course reversed (whole_range s) pairs)
  every_pair s m reversed = every_range pairs (whole_range s) MayBoth (scan_reads s m) reversed (range_some (path_prefix prefix t s.path) s.range)

  scan_every : (s : Scan) → Contains scans (record { path = primary; range = s.range; reverse = s.reverse }) → Every MayBoth Anything (scan_course prefix pairs t s)
  scan_every s m =
      let path : PathScan = record { path = primary; range = s.range; reverse = s.reverse } in
      every_for MayBoth (IsIn pairs (whole_range path)) Anything (λ pair. found_or pair.0 (stored_record prefix t pair)) (range_course s.reverse (whole_range path) pairs)
      (λ pair is. every_found MayBoth Anything pair.0 (stored_record prefix t pair) (λ r e. tt)) (every_pair path m s.reverse)

  entries_every : (s : IndexScan) → Contains scans (along_index s) → Every MayBoth Leads (entries_course prefix pairs t s)
  entries_every s m =
      every_for MayBoth (IsIn pairs (whole_range (along_index s))) Leads (λ pair. found_or pair.0 (stored_entry prefix t s.index pair)) (range_course s.reverse (whole_range (along_index s)) pairs)
      (λ pair is. every_found MayBoth Leads pair.0 (stored_entry prefix t s.index pair) (λ entry e. by pair is entry (entry_primary_key prefix t s.index pair) refl e)) (every_pair (along_index s) m s.reverse)
    where
      by : (pair : Pair) → IsIn pairs (whole_range (along_index s)) pair → (entry : Entry) (o : Option (List Cell)) → entry_primary_key prefix t s.index pair ≡ o →
          option_map (λ key. record { key = pair.0; primary_key = key }) o ≡ Some entry → Leads entry
      by pair is entry None un e = absurd (none-some entry e)
      by pair is entry (Some key) un e = record {
        scan = along_index s;
        planned = m;
        index = s.index;
        path = refl;
        pair = pair;
        there = contains_member pair pairs is.0;
        within = has_key (along_index s) pair.0 is.1;
        leads = un ∙ ap (λ (x : Entry). Some x.primary_key) (same_Some (record { key = pair.0; primary_key = key }) entry e);
      }

  entries_all : (ss : List IndexScan) → AreAmong (map along_index ss) scans → Each (Every MayBoth Leads) (map (entries_course prefix pairs t) ss)
  entries_all [] among = tt
  entries_all (s ∷ ss) among = (entries_every s (among (along_index s) (0, omega arith, refl)), entries_all ss (λ x c. among x (suc c.0, omega (arith, c.1), c.2)))

  source_every : (s : Source) → AreAmong (source_scans s) scans → Every MayBoth Leads (source_course prefix pairs t s)
  source_every (one s) among = entries_every s (among (along_index s) (0, omega arith, refl))
  source_every (intersection ss) among = every_all_joined MayBoth Leads (λ (e : Entry). e.primary_key) (map (entries_course prefix pairs t) ss) (entries_all ss among)

  record_every : (entry : Entry) → Leads entry → Every MayBoth Anything (record_course prefix pairs t entry)
  record_every entry is = ((may, may), by (find bytes_cmp at pairs))
    where
      at : List ℕ
      at = record_key prefix (items_of entry.primary_key)

      may : MayRead prefix pairs t scans (point at)
      may = inr (record { scan = is.scan; planned = is.planned; index = is.index; path = is.path; entry = is.pair; there = is.there; within = is.within; key = entry.primary_key; leads = is.leads; is = refl })

      by : (o : Option (List ℕ)) → Every MayBoth Anything (record_there prefix pairs t entry o)
      by None = tt
      by (Some value) = every_found MayBoth Anything at (stored_record prefix t (at, value)) (λ r e. tt)

  mutual
    node_every : (n : Node) → AreAmong (scans_of n) scans → Every MayBoth Anything (node_course prefix pairs t n)
    node_every (scan s) among = scan_every s (among (record { path = primary; range = s.range; reverse = s.reverse }) (0, omega arith, refl))
    node_every (fetch s) among = every_for MayBoth Leads Anything (record_course prefix pairs t) (source_course prefix pairs t s) record_every (source_every s among)
    node_every (filtered f n) among = every_kept MayBoth Anything (selects f) (node_course prefix pairs t n) (node_every n among)
    node_every (union ns) among = merged_every ns among
    node_every (unordered_union ns) among = nodes_every ns among
    node_every (distinct n) among = every_first MayBoth Anything primary_cells (node_course prefix pairs t n) (node_every n among)

    merged_every : (ns : Nodes) → AreAmong (scans_of_all ns) scans → Every MayBoth Anything (merged_course prefix pairs t ns)
    merged_every no_nodes among = tt
    merged_every (node n ns) among =
        every_merged MayBoth Anything primary_cells (node_course prefix pairs t n) (merged_course prefix pairs t ns)
        (node_every n (λ x c. among x (Contains-append_left (scans_of n) (scans_of_all ns) x c)))
        (merged_every ns (λ x c. among x (Contains-append_right (scans_of n) (scans_of_all ns) x c)))

    nodes_every : (ns : Nodes) → AreAmong (scans_of_all ns) scans → Every MayBoth Anything (nodes_course prefix pairs t ns)
    nodes_every no_nodes among = tt
    nodes_every (node n ns) among =
        every_append MayBoth Anything (node_course prefix pairs t n) (nodes_course prefix pairs t ns)
        (node_every n (λ x c. among x (Contains-append_left (scans_of n) (scans_of_all ns) x c)))
        (nodes_every ns (λ x c. among x (Contains-append_right (scans_of n) (scans_of_all ns) x c)))

-- ---- what is read of a course

module _ {A : Type 0} (P : PlanRead → Type 0) (Q : A → Type 0) where
  each_read : (course : Course A) → Every P Q course → Each P (outcome_of course).reads
  each_read [] e = tt
  each_read (reads read ∷ course) e = (e.0, each_read course e.1)
  each_read (finds a ∷ course) e = each_read course e.1
  each_read (fails key ∷ course) e = tt

  each_until : (n : ℕ) (course : Course A) → Every P Q course → Each P (reads_until n course)
  each_until zero course e = tt
  each_until (suc n) [] e = tt
  each_until (suc n) (reads read ∷ course) e = (e.0, each_until (suc n) course e.1)
  each_until (suc n) (finds a ∷ course) e = each_until n course e.1
  each_until (suc n) (fails key ∷ course) e = tt

module _ (prefix : List ℕ) (pairs : List Pair) (t : TypeDefinition) (n : Node) where
  its_course : Every (MayBoth prefix pairs t (scans_of n)) Anything (node_course prefix pairs t n)
  its_course = node_every prefix pairs t (scans_of n) n (λ s c. c)

  all_asked : (some : List PlanRead) → Each (MayBoth prefix pairs t (scans_of n)) some → All (MayRead prefix pairs t (scans_of n)) (ranges_asked some)
  all_asked some e =
      each_all (MayRead prefix pairs t (scans_of n)) (ranges_asked some)
      (each_of_map (MayRead prefix pairs t (scans_of n)) (λ (read : PlanRead). read.asked) some
      (each_map (MayBoth prefix pairs t (scans_of n)) (λ (read : PlanRead). MayRead prefix pairs t (scans_of n) read.asked) (λ read may. may.0) some e))

  all_added : (some : List PlanRead) → Each (MayBoth prefix pairs t (scans_of n)) some → All (MayRead prefix pairs t (scans_of n)) (ranges_added some)
  all_added some e =
      each_all (MayRead prefix pairs t (scans_of n)) (ranges_added some)
      (each_of_map (MayRead prefix pairs t (scans_of n)) (λ (read : PlanRead). read.added) some
      (each_map (MayBoth prefix pairs t (scans_of n)) (λ (read : PlanRead). MayRead prefix pairs t (scans_of n) read.added) (λ read may. may.1) some e))

-- WITHIN: what is asked for and what is kept may be read
pub reads_within : PlansReadTheirScans
reads_within prefix pairs t n =
    let course = node_course prefix pairs t n in
    let each = each_read (MayBoth prefix pairs t (scans_of n)) Anything course (its_course prefix pairs t n) in
    (all_asked prefix pairs t n (outcome_of course).reads each, all_added prefix pairs t n (outcome_of course).reads each)

-- UNTIL: also where the reads stop before their end
pub until_within : PlansReadTheirScansUntil
until_within prefix pairs t n count =
    let course = node_course prefix pairs t n in
    all_added prefix pairs t n (reads_until count course) (each_until (MayBoth prefix pairs t (scans_of n)) Anything count course (its_course prefix pairs t n))
