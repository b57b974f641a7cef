-- What the steps of a plan read lies in the reach of the command that executes it.
use Rattle.std.proofs.Common.{◌≡◌, inl, inr, ℕ, pos, Bool, true, false, not, cond, ◌==◌, ◌&&◌, List, [], ◌∷◌, ◌++◌, length, drop, map, Option, Some, None, refl, sym, ap, subst, ◌∙◌, append_assoc}
use Rattle.std.specs.Prelude.{All, Contains, bytes_eq, option_and_then}
use Rattle.std.specs.List.{AllByRecursion, list_all, list_any}
use Rattle.std.specs.Option.{option_map}
use Rattle.std.specs.Ordering.{is_le, is_lt, ordering_reverse}
use Rattle.std.specs.declared.cmp.Ordering.{Ordering}
use Rattle.std.specs.declared.cmp.Ordering.TheVariants.{Less, Equal, Greater}
use Rattle.std.proofs.lemmas.Bool.{and_parts}
use Rattle.std.proofs.lemmas.List.Elements.{All-contains, All-contains_itself, All-from_recursion, recursion_from_All}
use Rattle.std.specs.Cmp.Lexicographic.{nat_list_cmp_total}
use Rattle.std.proofs.lemmas.Slice.Eq.{bytes_eq-Decides}
use Rattle.tuple_codec.specs.Item.{int}
use Rattle.tuple_codec.specs.Spelling.{item_spelling, outer, spelling}
use Rattle.tuple_codec.specs.Subspace.{BeginsWith}
use Rattle.kv_core.specs.Bytes.{key_cmp, key_lt}
use Rattle.std.specs.FinMap.{entries}
use Rattle.kv_core.specs.Map.{Map}
use Rattle.kv_core.specs.Range.{KeyRange, contains}
use Rattle.cluster_core.proofs.Ownership.{point_key}
use Rattle.metadata.specs.declared.cells.Cell.{Cell}
use Rattle.metadata.specs.declared.cells.Cell.TheVariants.{Int}
use Rattle.metadata.specs.declared.definition.TypeDefinition.{TypeDefinition}
use Rattle.metadata.specs.declared.index.IndexDefinition.{IndexDefinition}
use Rattle.metadata.specs.declared.index.State.TheVariants as state
use Rattle.metadata.specs.Cell.{all_fit, is_null, item_of, items_of}
use Rattle.metadata.specs.Layout.{Pair, entries_prefix, record_key}
use Rattle.metadata.specs.Schema.{find_type, key_kinds}
use Rattle.query.specs.declared.error.QueryError.{QueryError}
use Rattle.query.specs.Checked.{query_refusal}
use Rattle.query.specs.Query as asked
use Rattle.planner.specs.Asked.{AskedPlan}
use Rattle.planner.specs.Layout.{column_kinds, entry_primary_key, is_entry, is_primary_key}
use Rattle.planner.specs.Match.{Path, along, primary}
use Rattle.planner.specs.Pack.{pack, unpack}
use Rattle.planner.specs.Plan.{IndexScan, Node, Nodes, Source, distinct, fetch, filtered, intersection, no_nodes, node, one, scan, union, unordered_union}
use Rattle.planner.specs.Planned.{planned}
use Rattle.planner.specs.Right.{indexes_of, indexes_of_all, indexes_of_scans, is_served, source_indexes}
use Rattle.planner.specs.Rules.{MayBeUsed, usable}
use Rattle.planner.specs.Scanned.{PathScan, along_index, scans_of, scans_of_all, source_scans}
use Rattle.planner.specs.View.{plan_of}
use Rattle.planner.proofs.Theorem.{planned_usable}
use Rattle.record_store.specs.Calls.{index_states}
use Rattle.record_store.specs.Store.{Store, state_of}
use Rattle.record_store.proofs.Held.{under}
use Rattle.record_store.proofs.Listed.{state_told_there}
use Rattle.plan_exec.specs.Accepting.{IsReadableAt, extends, may_read}
use Rattle.plan_exec.specs.Executing.{asks_of, reads_of}
use Rattle.plan_exec.specs.Within.{MayRead, path_prefix, scan_has}
use Rattle.plan_exec.proofs.Accepted.{all_readable}
use Rattle.plan_exec.proofs.Answers.{scannable}
use Rattle.plan_exec.proofs.Told.{states_told}
use Rattle.plan_exec.proofs.Within.{reads_within}
use Rattle.schedule.specs.declared.step.Command.TheVariants.{Execute, Query}
use Rattle.schedule.specs.Query.{opened_as}
use Rattle.schedule.specs.Executed.{PlanSteps, plan_steps, query_steps, steps_for, steps_reading, steps_with, unless_refused}
use Rattle.schedule.specs.Keys.{IsOfRecords, IsOfType, MayReadIn, MayReadScanning}

-- ---- scans along the indexes of a plan

-- the index of a path is such
abbrev AlongSuch : (IndexDefinition → Type 0) → Path → Type 0
AlongSuch P primary = Unit {0}
AlongSuch P (along i) = P i

abbrev ScansSuch : (IndexDefinition → Type 0) → List PathScan → Type 0
ScansSuch P scans = AllByRecursion (λ (s : PathScan). AlongSuch P s.path) scans

split : {X : Type 0} (P : X → Type 0) (xs ys : List X) → AllByRecursion P (xs ++ ys) → AllByRecursion P xs × AllByRecursion P ys
split P [] ys all = (tt, all)
split P (x ∷ xs) ys all = let rest = split P xs ys all.1 in ((all.0, rest.0), rest.1)

scans_append : (P : IndexDefinition → Type 0) (xs ys : List PathScan) → ScansSuch P xs → ScansSuch P ys → ScansSuch P (xs ++ ys)
scans_append P [] ys all more = more
scans_append P (x ∷ xs) ys all more = (all.0, scans_append P xs ys all.1 more)

module _ (P : IndexDefinition → Type 0) where
  index_scans : (ss : List IndexScan) → AllByRecursion P (indexes_of_scans ss) → ScansSuch P (map along_index ss)
  index_scans [] all = tt
  index_scans (s ∷ ss) all = (all.0, index_scans ss all.1)

  source_such : (s : Source) → AllByRecursion P (source_indexes s) → ScansSuch P (source_scans s)
  source_such (one s) all = (all.0, tt)
  source_such (intersection ss) all = index_scans ss all

  mutual
    node_such : (n : Node) → AllByRecursion P (indexes_of n) → ScansSuch P (scans_of n)
    node_such (scan s) all = (tt, tt)
    node_such (fetch s) all = source_such s all
    node_such (filtered f n) all = node_such n all
    node_such (union ns) all = nodes_such ns all
    node_such (unordered_union ns) all = nodes_such ns all
    node_such (distinct n) all = node_such n all

    nodes_such : (ns : Nodes) → AllByRecursion P (indexes_of_all ns) → ScansSuch P (scans_of_all ns)
    nodes_such no_nodes all = tt
    nodes_such (node n ns) all =
        let parts = split P (indexes_of n) (indexes_of_all ns) all in
        scans_append P (scans_of n) (scans_of_all ns) (node_such n parts.0) (nodes_such ns parts.1)

-- ---- keys of a scan

not_below : (a k : List ℕ) → is_le (key_cmp a k) ≡ true → key_lt k a ≡ false
not_below a k is = ap is_lt (nat_list_cmp_total.antisymm k a) ∙ by_order (key_cmp a k) is
  where
    by_order : (o : Ordering) → is_le o ≡ true → is_lt (ordering_reverse o) ≡ false
    by_order Less le = refl
    by_order Equal le = refl
    by_order Greater le = absurd (cc)

path_begins : (prefix : List ℕ) (t : TypeDefinition) (s : PathScan) (key : List ℕ) → scan_has prefix t s key ≡ true → BeginsWith (path_prefix prefix t s.path) key
path_begins prefix t s key is =
    let p = path_prefix prefix t s.path in
    let parts = and_parts (is_le (key_cmp (p ++ s.range.begin) key)) (is_lt (key_cmp key (p ++ s.range.end))) is in
    under p s.range.begin s.range.end key (λ i. not (not_below (p ++ s.range.begin) key parts.0 i) && parts.1 i)

-- the key of a record to which an entry leads is one of the type
key_begins : (prefix : List ℕ) (t : TypeDefinition) (key : List Cell) → is_primary_key t key ≡ true → IsOfRecords prefix t.number (record_key prefix (items_of key))
key_begins prefix t [] is = absurd (cc)
key_begins prefix t (number ∷ cells) is = (spelling (items_of cells), ap (λ s. prefix ++ (first ++ s)) own ∙ ap (λ s. prefix ++ s) (sym (append_assoc first (its ++ []) (spelling (items_of cells)))) ∙ sym (append_assoc prefix (first ++ (its ++ [])) (spelling (items_of cells))))
  where
    first : List ℕ
    first = item_spelling outer (int (pos 1))

    its : List ℕ
    its = item_spelling outer (int (pos t.number))

    same : pack (number ∷ []) ≡ pack (Int (pos t.number) ∷ [])
    same = (bytes_eq-Decides (pack (number ∷ [])) (pack (Int (pos t.number) ∷ []))).0
        (and_parts (bytes_eq (pack (number ∷ [])) (pack (Int (pos t.number) ∷ []))) (all_fit (key_kinds t) cells && not (list_any is_null cells)) is).0

    own : item_spelling outer (item_of number) ++ spelling (items_of cells) ≡ (its ++ []) ++ spelling (items_of cells)
    own = sym (append_assoc (item_spelling outer (item_of number)) [] (spelling (items_of cells))) ∙ ap (λ s. s ++ spelling (items_of cells)) same

entry_leads : (prefix : List ℕ) (t : TypeDefinition) (i : IndexDefinition) (entry : Pair) (key : List Cell) → entry_primary_key prefix t i entry ≡ Some key → is_primary_key t key ≡ true
entry_leads prefix t i entry key is = by_value (length entry.1 == 0) is
  where
    taken : List Cell → Option (List Cell)
    taken cells = cond (is_entry t i cells) (Some (drop (length i.columns) cells)) None

    by_test : (cells : List Cell) (b : Bool) → is_entry t i cells ≡ b → cond b (Some (drop (length i.columns) cells)) None ≡ Some key → is_primary_key t key ≡ true
    by_test cells true so said =
        let same : drop (length i.columns) cells ≡ key = cc in
        subst (λ k. is_primary_key t k ≡ true) same (and_parts (all_fit (column_kinds t i) (Rattle.std.specs.Prelude.take (length i.columns) cells)) (is_primary_key t (drop (length i.columns) cells)) so).1
    by_test cells false so said = absurd (cc)

    by_cells : (o : Option (List Cell)) → option_and_then taken o ≡ Some key → is_primary_key t key ≡ true
    by_cells None said = absurd (cc)
    by_cells (Some cells) said = by_test cells (is_entry t i cells) refl said

    by_value : (b : Bool) → cond b (option_and_then taken (unpack (drop (length (entries_prefix prefix i.number)) entry.0))) None ≡ Some key → is_primary_key t key ≡ true
    by_value true said = by_cells (unpack (drop (length (entries_prefix prefix i.number)) entry.0)) said
    by_value false said = absurd (cc)

-- ---- the steps of a plan

-- an index of the store that is readable, and such
pub record IsSuch (store : Store) (Is : IndexDefinition → Type 0) (i : IndexDefinition) : Type 0 where
  pub there : Contains store.schema.indexes i
  pub such : Is i
  pub readable : state_of store i.number ≡ state.Readable

module _ (prefix : List ℕ) (store : Store) (t : TypeDefinition) (n : Node) (Is : IndexDefinition → Type 0) (all : AllByRecursion (IsSuch store Is) (indexes_of n)) where
  abbrev May : List ℕ → Type 0
  May key = MayReadScanning prefix store t.number Is key

  path_such : (path : Path) (key : List ℕ) → AlongSuch (IsSuch store Is) path → BeginsWith (path_prefix prefix t path) key → May key
  path_such primary key so begins = inl begins
  path_such (along i) key so begins = inr (record { index = i; there = so.there; such = so.such; state = so.readable; of = begins })

  scan_such : (s : PathScan) → Contains (scans_of n) s → AlongSuch (IsSuch store Is) s.path
  scan_such s there =
      All-contains (λ (one : PathScan). AlongSuch (IsSuch store Is) one.path) (scans_of n) s
      (All-from_recursion (λ (one : PathScan). AlongSuch (IsSuch store Is) one.path) (scans_of n) (node_such (IsSuch store Is) n all)) there

  range_such : (pairs : List Pair) (range : KeyRange) → MayRead prefix pairs t (scans_of n) range → (key : List ℕ) → contains range key ≡ true → May key
  range_such pairs range (inl of) key inside = path_such of.scan.path key (scan_such of.scan of.planned) (path_begins prefix t of.scan key (of.within key inside))
  range_such pairs range (inr of) key inside =
      let at : record_key prefix (items_of of.key) ≡ key = point_key (record_key prefix (items_of of.key)) key (ap (λ r. contains r key) (sym of.is) ∙ inside) in
      inl (subst (IsOfRecords prefix t.number) at (key_begins prefix t of.key (entry_leads prefix t of.index of.entry of.key of.leads)))

  ranges_such : (pairs : List Pair) (ranges : List KeyRange) → AllByRecursion (MayRead prefix pairs t (scans_of n)) ranges → AllByRecursion (λ (range : KeyRange). (key : List ℕ) → contains range key ≡ true → May key) ranges
  ranges_such pairs [] each = tt
  ranges_such pairs (range ∷ ranges) each = (range_such pairs range each.0, ranges_such pairs ranges each.1)

  pub steps_such : (m : Map) →
      AllByRecursion (λ (range : KeyRange). (key : List ℕ) → contains range key ≡ true → May key) (asks_of prefix (entries m) t n)
      × AllByRecursion (λ (range : KeyRange). (key : List ℕ) → contains range key ≡ true → May key) (reads_of prefix (entries m) t n)
  steps_such m =
      let law = reads_within prefix (entries m) t n in (
        ranges_such (entries m) (asks_of prefix (entries m) t n) (recursion_from_All (MayRead prefix (entries m) t (scans_of n)) (asks_of prefix (entries m) t n) law.0),
        ranges_such (entries m) (reads_of prefix (entries m) t n) (recursion_from_All (MayRead prefix (entries m) t (scans_of n)) (reads_of prefix (entries m) t n) law.1),
      )

-- ---- by the command

abbrev Ranges : (List ℕ → Type 0) → List KeyRange → Type 0
Ranges May ranges = AllByRecursion (λ (range : KeyRange). (key : List ℕ) → contains range key ≡ true → May key) ranges

ranges_wider : (May Wide : List ℕ → Type 0) → ((key : List ℕ) → May key → Wide key) → (ranges : List KeyRange) → Ranges May ranges → Ranges Wide ranges
ranges_wider May Wide so [] all = tt
ranges_wider May Wide so (range ∷ ranges) all = (λ key inside. so key (all.0 key inside), ranges_wider May Wide so ranges all.1)

-- what the steps read, asked for and added
abbrev BothSuch : (prefix : List ℕ) → (List ℕ → Type 0) → Store → Option PlanSteps → Map → Type 0
BothSuch prefix May store steps m = Ranges May ((steps_reading (opened_as prefix store) steps).asked m) × Ranges May ((steps_reading (opened_as prefix store) steps).added m)

-- the planner uses indexes of the type that are readable
used_such : (prefix : List ℕ) (store : Store) (t : TypeDefinition) (is : List IndexDefinition) → AllByRecursion (MayBeUsed store.schema (index_states (opened_as prefix store)) t) is → AllByRecursion (IsSuch store (IsOfType t.number)) is
used_such prefix store t [] all = tt
used_such prefix store t (i ∷ is) all = (record { there = all.0.in_schema; such = all.0.of_type; readable = (scannable store (index_states (opened_as prefix store)) t i (states_told (opened_as prefix store) store (record { schema = refl; states = refl })) all.0).readable }, used_such prefix store t is all.1)

pub queried_such : (prefix : List ℕ) (store : Store) (query : asked.Query) (m : Map) → BothSuch prefix (MayReadIn prefix store (Query query)) store (query_steps (opened_as prefix store) query) m
queried_such prefix store query m = by_refusal (query_refusal store.schema query) (is_served store.schema (index_states (opened_as prefix store)) query)
  where
    nothing : BothSuch prefix (MayReadIn prefix store (Query query)) store None m
    nothing = (tt, tt)

    by_root : (t : TypeDefinition) → find_type store.schema query.record_type ≡ Some t → (o : Option Node) → planned t (usable store.schema (index_states (opened_as prefix store)) t) query ≡ o →
        BothSuch prefix (MayReadIn prefix store (Query query)) store (option_map (λ root. (t, root)) o) m
    by_root t named None is = nothing
    by_root t named (Some root) is =
        let uses = used_such prefix store t (indexes_of root) (planned_usable store.schema (index_states (opened_as prefix store)) t query root is) in
        let both = steps_such prefix store t root (IsOfType t.number) uses m in
        let so : (key : List ℕ) → MayReadScanning prefix store t.number (IsOfType t.number) key → MayReadIn prefix store (Query query) key = λ key may. (t, named, may) in (
          ranges_wider (MayReadScanning prefix store t.number (IsOfType t.number)) (MayReadIn prefix store (Query query)) so (asks_of prefix (entries m) t root) both.0,
          ranges_wider (MayReadScanning prefix store t.number (IsOfType t.number)) (MayReadIn prefix store (Query query)) so (reads_of prefix (entries m) t root) both.1,
        )

    by_type : (o : Option TypeDefinition) → find_type store.schema query.record_type ≡ o → BothSuch prefix (MayReadIn prefix store (Query query)) store (option_and_then (steps_for (opened_as prefix store) query) o) m
    by_type None is = nothing
    by_type (Some t) is = by_root t is (planned t (usable store.schema (index_states (opened_as prefix store)) t) query) refl

    by_refusal : (why : Option QueryError) (served : Bool) → BothSuch prefix (MayReadIn prefix store (Query query)) store (unless_refused why served (option_and_then (steps_for (opened_as prefix store) query) (find_type store.schema query.record_type))) m
    by_refusal (Some error) served = nothing
    by_refusal None false = nothing
    by_refusal None true = by_type (find_type store.schema query.record_type) refl

-- the store may read the indexes of a plan that it accepts
read_such : (prefix : List ℕ) (store : Store) (all is : List IndexDefinition) → AllByRecursion (Contains all) is → AllByRecursion (IsReadableAt (opened_as prefix store)) is → AllByRecursion (IsSuch store (Contains all)) is
read_such prefix store all [] there readable = tt
read_such prefix store all (i ∷ is) there readable = (record { there = readable.0.there; such = there.0; readable = state_told_there (opened_as prefix store) store i (record { schema = refl; states = refl }) readable.0.there ∙ readable.0.readable }, read_such prefix store all is there.1 readable.1)

pub executed_such : (prefix : List ℕ) (store : Store) (plan : AskedPlan) (m : Map) → BothSuch prefix (MayReadIn prefix store (Execute plan)) store (plan_steps (opened_as prefix store) (plan_of plan)) m
executed_such prefix store plan m = by_type (find_type store.schema plan.definition.name) refl
  where
    root : Node
    root = (plan_of plan).root

    nothing : BothSuch prefix (MayReadIn prefix store (Execute plan)) store None m
    nothing = (tt, tt)

    by_test : (t : TypeDefinition) → find_type store.schema plan.definition.name ≡ Some t → (b : Bool) → (extends plan.definition t && list_all (may_read (opened_as prefix store)) (indexes_of root)) ≡ b →
        BothSuch prefix (MayReadIn prefix store (Execute plan)) store (cond {A = Option PlanSteps} b (Some (t, root)) None) m
    by_test t named false is = nothing
    by_test t named true is =
        let both = and_parts (extends plan.definition t) (list_all (may_read (opened_as prefix store)) (indexes_of root)) is in
        let there = recursion_from_All (Contains (indexes_of root)) (indexes_of root) (All-contains_itself (indexes_of root)) in
        let uses = read_such prefix store (indexes_of root) (indexes_of root) there ((all_readable (opened_as prefix store) (indexes_of root)).0 both.1) in
        let steps = steps_such prefix store t root (Contains (indexes_of root)) uses m in
        let so : (key : List ℕ) → MayReadScanning prefix store t.number (Contains (indexes_of root)) key → MayReadIn prefix store (Execute plan) key = λ key may. (t, named, may) in (
          ranges_wider (MayReadScanning prefix store t.number (Contains (indexes_of root))) (MayReadIn prefix store (Execute plan)) so (asks_of prefix (entries m) t root) steps.0,
          ranges_wider (MayReadScanning prefix store t.number (Contains (indexes_of root))) (MayReadIn prefix store (Execute plan)) so (reads_of prefix (entries m) t root) steps.1,
        )

    by_type : (o : Option TypeDefinition) → find_type store.schema plan.definition.name ≡ o → BothSuch prefix (MayReadIn prefix store (Execute plan)) store (option_and_then (steps_with (opened_as prefix store) (plan_of plan)) o) m
    by_type None is = nothing
    by_type (Some t) is = by_test t is (extends plan.definition t && list_all (may_read (opened_as prefix store)) (indexes_of root)) refl
