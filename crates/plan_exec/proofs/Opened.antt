-- What the rows of a plan's node have to give when they are opened: the node's course.
use Rattle.std.specs.Prelude.{◌≡◌, ◌∷◌, ◌++◌, List, [], map, Bool, true, false, cond, not, refl}
use Rattle.std.specs.Global.{Global}
use Rattle.std.specs.List.{list_any}
use Rattle.std.specs.BTreeMap.{is_at}
use Rattle.std.specs.Ordering.{eq_by_cmp}
use Rattle.std.proofs.Common.{Box, Vec, ap, sym, ◌∙◌, subst, append-nil}
use Rattle.metadata.specs.declared.cells.Cell.{Cell}
use Rattle.metadata.specs.Layout.{Pair}
use Rattle.metadata.specs.Order.{cells_cmp}
use Rattle.planner.specs.Layout.{primary_cells}
use Rattle.planner.specs.Plan as plan
use Rattle.planner.specs.Planned.{nodes_of}
use Rattle.planner.specs.View.{node_of, node_step, source_of}
use Rattle.planner.specs.declared.plan.Node.{Node, Node-F, fold-roll-Node}
use Rattle.planner.specs.declared.plan.Node.TheVariants.{Distinct, Fetch, Union, UnorderedUnion, rolls-Distinct, rolls-Fetch, rolls-Union, rolls-UnorderedUnion}
use Rattle.planner.specs.declared.plan.Source.{Source}
use Rattle.plan_exec.specs.Course.{Course, fails, finds, first_course, kept_course, merged, merged_course, node_course, nodes_course, reads, source_course}
use Rattle.plan_exec.specs.Levels.{merged_levels}
use Rattle.plan_exec.specs.Rows.{RowsLevel, chained_levels, first_rows, new_level}
use Rattle.plan_exec.specs.Sources.{source_left}
use Rattle.plan_exec.specs.Streams.{records_fetched}
use Rattle.plan_exec.specs.declared.distinct.PrimaryKeys.{PrimaryKeys}
use Rattle.plan_exec.specs.declared.fetch_streams.SourceStream.{SourceStream}
use Rattle.plan_exec.specs.declared.readers.RecordsOf.{RecordsOf}

-- ---- nodes

node-Fetch : (source : Source) → node_of (Fetch source) ≡ plan.fetch (source_of source)
node-Fetch source = ap node_of (sym (rolls-Fetch source)) ∙ fold-roll-Node plan.Node node_step (Node-F.Fetch source)

node-Union : (nodes : Vec Node Global) → node_of (Union nodes) ≡ plan.union (nodes_of (map node_of nodes.items))
node-Union nodes = ap node_of (sym (rolls-Union nodes)) ∙ fold-roll-Node plan.Node node_step (Node-F.Union nodes)

node-UnorderedUnion : (nodes : Vec Node Global) → node_of (UnorderedUnion nodes) ≡ plan.unordered_union (nodes_of (map node_of nodes.items))
node-UnorderedUnion nodes = ap node_of (sym (rolls-UnorderedUnion nodes)) ∙ fold-roll-Node plan.Node node_step (Node-F.UnorderedUnion nodes)

node-Distinct : (part : Box Node Global) → node_of (Distinct part) ≡ plan.distinct (node_of part.value)
node-Distinct part = ap node_of (sym (rolls-Distinct part)) ∙ fold-roll-Node plan.Node node_step (Node-F.Distinct part)

-- ---- what is kept

module _ {A : Type 0} where
  -- all things are kept where the test passes each: of what was kept before
  all_kept : (keeps : A → Bool) (course : Course A) → kept_course (λ a. true) (kept_course keeps course) ≡ kept_course keeps course
  all_kept keeps [] = refl
  all_kept keeps (reads read ∷ course) = ap (λ c. reads read ∷ c) (all_kept keeps course)
  all_kept keeps (finds a ∷ course) = by (keeps a) (kept_course keeps course) (all_kept keeps course)
    where
      by : (t : Bool) (rest : Course A) → kept_course (λ a. true) rest ≡ rest → kept_course (λ a. true) (cond t (finds a ∷ []) [] ++ rest) ≡ cond t (finds a ∷ []) [] ++ rest
      by true rest so = ap (λ c. finds a ∷ c) so
      by false rest so = so
  all_kept keeps (fails key ∷ course) = refl

  -- and of the first ones of each key
  all_first : (key : A → List Cell) (course : Course A) → kept_course (λ a. true) (first_course key course) ≡ first_course key course
  all_first key [] = refl
  all_first key (reads read ∷ course) = ap (λ c. reads read ∷ c) (all_first key course)
  all_first key (finds a ∷ course) = ap (λ c. finds a ∷ c) (all_kept (λ b. not (eq_by_cmp cells_cmp (key a) (key b))) (first_course key course))
  all_first key (fails k ∷ course) = refl

  -- so they are where no key is in a set
  first_unseen : (key : A → List Cell) (keys : List (List Cell)) (course : Course A) → keys ≡ [] → kept_course (λ a. not (list_any (is_at (cells_cmp (key a))) keys)) (first_course key course) ≡ first_course key course
  first_unseen key keys course none = subst (λ ks. kept_course (λ a. not (list_any (is_at (cells_cmp (key a))) ks)) (first_course key course) ≡ first_course key course) (sym none) (all_first key course)

-- ---- what the rows of nodes have to give

module _ (records : RecordsOf) where
  -- the rows of a node, of which nothing is known yet
  abbrev pub begun : Node → RowsLevel
  begun node = new_level (λ pairs. node_course records.store.now.prefix pairs records.definition.value (node_of node))

  chained_begun : (nodes : List Node) (pairs : List Pair) → chained_levels (map begun nodes) pairs ≡ nodes_course records.store.now.prefix pairs records.definition.value (nodes_of (map node_of nodes))
  chained_begun [] pairs = refl
  chained_begun (n ∷ nodes) pairs = ap (λ c. node_course records.store.now.prefix pairs records.definition.value (node_of n) ++ c) (chained_begun nodes pairs)

  merged_begun : (nodes : List Node) (pairs : List Pair) → merged_levels (λ stream. stream) primary_cells (map begun nodes) pairs ≡ merged_course records.store.now.prefix pairs records.definition.value (nodes_of (map node_of nodes))
  merged_begun [] pairs = refl
  merged_begun (n ∷ nodes) pairs = ap (merged primary_cells (node_course records.store.now.prefix pairs records.definition.value (node_of n))) (merged_begun nodes pairs)

  -- a level with the course of what a node stands for
  of_node : (level : RowsLevel) (node other : Node) (n : plan.Node) → node ≡ other → node_of other ≡ n → level ≡ new_level (λ pairs. node_course records.store.now.prefix pairs records.definition.value n) → level ≡ begun node
  of_node level node other n is stands so = so ∙ ap (λ m. new_level (λ pairs. node_course records.store.now.prefix pairs records.definition.value m)) (sym stands) ∙ ap begun (sym is)

  module _ (level : RowsLevel) (node : Node) where
    pub fetch_opened : (source : Source) (entries : SourceStream) → node ≡ Fetch source → ((pairs : List Pair) → source_left entries pairs ≡ source_course records.store.now.prefix pairs records.definition.value (source_of source)) →
        level ≡ new_level (λ pairs. records_fetched records pairs (source_left entries pairs)) → level ≡ begun node
    fetch_opened source entries is left so = of_node level node (Fetch source) _ is (node-Fetch source) (so ∙ (λ i. new_level (λ pairs. records_fetched records pairs (left pairs i))))

    module _ (parts : List RowsLevel) where
      module _ (nodes : Vec Node Global) (ns : List Node) (items : ns ≡ nodes.items) (are : parts ≡ map begun ns) where
        parts_begun : parts ≡ map begun nodes.items
        parts_begun = are ∙ ap (map begun) items

        pub union_opened : node ≡ Union nodes → level ≡ new_level (merged_levels (λ stream. stream) primary_cells parts) → level ≡ begun node
        union_opened is so =
            of_node level node (Union nodes) _ is (node-Union nodes) (so ∙ ap (λ ps. new_level (merged_levels (λ stream. stream) primary_cells ps)) parts_begun ∙ (λ i. new_level (λ pairs. merged_begun nodes.items pairs i)))

        pub unordered_opened : node ≡ UnorderedUnion nodes → level ≡ new_level (chained_levels parts) → level ≡ begun node
        unordered_opened is so =
            of_node level node (UnorderedUnion nodes) _ is (node-UnorderedUnion nodes) (so ∙ ap (λ ps. new_level (chained_levels ps)) parts_begun ∙ (λ i. new_level (λ pairs. chained_begun nodes.items pairs i)))

      module _ (part : Box Node Global) (n : Node) (value : n ≡ part.value) (alone : parts ≡ begun n ∷ []) where
        -- the rows of the part alone
        part_begun : (pairs : List Pair) → chained_levels parts pairs ≡ node_course records.store.now.prefix pairs records.definition.value (node_of part.value)
        part_begun pairs = ap (λ ps. chained_levels ps pairs) (alone ∙ ap (λ m. begun m ∷ []) value) ∙ append-nil (node_course records.store.now.prefix pairs records.definition.value (node_of part.value))

        pub distinct_opened : (seen : PrimaryKeys) → seen.keys.keys ≡ [] → node ≡ Distinct part → level ≡ new_level (first_rows seen parts) → level ≡ begun node
        distinct_opened seen none is so =
            of_node level node (Distinct part) _ is (node-Distinct part)
            (so
            ∙ (λ i. new_level (λ pairs. first_unseen primary_cells seen.keys.keys (chained_levels parts pairs) none i))
            ∙ (λ i. new_level (λ pairs. first_course primary_cells (part_begun pairs i))))
