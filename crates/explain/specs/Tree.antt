-- The tree of a plan, for people: a node a line, and the nodes that it is made of below it, two spaces further in.
use Rattle.std.specs.Prelude.{ℕ, Bool, List, [], ◌∷◌, ◌++◌, codes, map, flat_map, if◌then◌else◌}
use Rattle.std.specs.Option.{option_map_or}
use Rattle.serde_json.specs.Written.{compact_text}
use Rattle.json_forms.specs.QueryJson.{filter_data}
use Rattle.metadata.specs.declared.definition.TypeDefinition.{TypeDefinition}
use Rattle.planner.specs.Plan.{Scan, IndexScan, Source, one, intersection, Node, scan, fetch, filtered, union}
use Rattle.planner.specs.Plan.{unordered_union, distinct, Nodes, no_nodes, node, Plan}
use Rattle.planner.specs.Range.{PlanRange}
use Rattle.explain.specs.PlanText.{range_text}
use Rattle.explain.specs.Shown.{range_words}

-- a line with its indentation
abbrev pub line : List ℕ → List ℕ → List ℕ
line indent text = indent ++ text ++ codes "\n"

-- the indentation of what stands below
abbrev pub deeper : List ℕ → List ℕ
deeper indent = indent ++ codes "  "

-- what a range says of the columns at these places, where that can be told
abbrev pub told_words : TypeDefinition → List ℕ → PlanRange → List ℕ
told_words t columns range = option_map_or (λ words. codes ": " ++ words) (range_words t columns range) []

-- the same, and the bytes of the range
abbrev pub shown_range : TypeDefinition → List ℕ → PlanRange → List ℕ
shown_range t columns range =
    told_words t columns range ++ (codes " [" ++ range_text range ++ codes "]")

-- what stands behind the range of a scan that gives the last key first
abbrev pub turned_words : Bool → List ℕ
turned_words reverse = if reverse then codes " reverse" else []

-- a scan: what is scanned, its name, the range of keys that go by these columns, and whether the last key comes first
abbrev pub shown_scan : List ℕ → List ℕ → TypeDefinition → List ℕ → PlanRange → Bool → List ℕ
shown_scan what name t columns range reverse =
    what ++ name ++ (shown_range t columns range ++ turned_words reverse)

-- the line of a scan of the records, and of an index
abbrev pub scan_line : TypeDefinition → List ℕ → Scan → List ℕ
scan_line t indent s = line indent (shown_scan (codes "Scan ") t.name t t.key s.range s.reverse)

abbrev pub index_line : TypeDefinition → List ℕ → IndexScan → List ℕ
index_line t indent s =
    line indent (shown_scan (codes "IndexScan ") s.index.name t s.index.columns s.range s.reverse)

-- where a fetch gets its primary keys from
abbrev pub source_tree : TypeDefinition → List ℕ → Source → List ℕ
source_tree t indent (one s) = index_line t indent s
source_tree t indent (intersection ss) =
    line indent (codes "Intersection") ++ flat_map (index_line t (deeper indent)) ss

module _ (t : TypeDefinition) where
  abbrev mutual
    -- a step of a plan over the records of the type
    pub node_tree : List ℕ → Node → List ℕ
    node_tree indent (scan s) = scan_line t indent s
    node_tree indent (fetch s) = line indent (codes "Fetch") ++ source_tree t (deeper indent) s
    node_tree indent (filtered f n) =
        line indent (codes "Filter " ++ compact_text (filter_data f)) ++ node_tree (deeper indent) n
    node_tree indent (union ns) = line indent (codes "Union") ++ nodes_tree (deeper indent) ns
    node_tree indent (unordered_union ns) =
        line indent (codes "UnorderedUnion") ++ nodes_tree (deeper indent) ns
    node_tree indent (distinct n) = line indent (codes "Distinct") ++ node_tree (deeper indent) n

    pub nodes_tree : List ℕ → Nodes → List ℕ
    nodes_tree indent no_nodes = []
    nodes_tree indent (node n ns) = node_tree indent n ++ nodes_tree indent ns

-- the tree of a plan: that of its last step
abbrev pub plan_tree : Plan → List ℕ
plan_tree plan = node_tree plan.definition [] plan.root
