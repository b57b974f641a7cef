-- The text of a plan.
use Rattle.std.specs.Prelude.{ℕ, zero, suc, Bool, List, [], ◌∷◌, ◌++◌, codes, map, if◌then◌else◌}
use Rattle.std.specs.List.{join_with_byte}
use Rattle.hex.specs.Hex.{encode_lower}
use Rattle.serde_json.specs.Written.{compact_text}
use Rattle.json_forms.specs.QueryJson.{filter_data}
use Rattle.planner.specs.Plan.{IndexScan, Source, one, intersection, Node, scan, fetch, filtered, union}
use Rattle.planner.specs.Plan.{unordered_union, distinct, Nodes, no_nodes, node, Plan}
use Rattle.planner.specs.Range.{PlanRange}

-- the first key and the key behind the last one, in hexadecimal
abbrev pub range_text : PlanRange → List ℕ
range_text range = encode_lower range.begin ++ codes ".." ++ encode_lower range.end

-- what stands behind the range of a scan that gives the last key first
abbrev pub turned_text : Bool → List ℕ
turned_text reverse = if reverse then codes ",reverse" else []

-- a scan: what is scanned, its name, and the range
abbrev pub scan_text : List ℕ → List ℕ → PlanRange → Bool → List ℕ
scan_text opened name range reverse =
    opened ++ name ++ codes "," ++ (range_text range ++ turned_text reverse ++ codes ")")

abbrev pub index_scan_text : IndexScan → List ℕ
index_scan_text s = scan_text (codes "IndexScan(") s.index.name s.range s.reverse

-- texts between brackets, with a comma between each two
abbrev pub bracketed : List ℕ → List (List ℕ) → List ℕ
bracketed opened texts = opened ++ join_with_byte 44 texts ++ codes ")"

-- Private: what stands before the part at a place of a list
abbrev pub comma_before : ℕ → List ℕ
comma_before zero = []
comma_before (suc place) = codes ","

-- where a fetch gets its primary keys from
abbrev pub source_text : Source → List ℕ
source_text (one s) = index_scan_text s
source_text (intersection ss) = bracketed (codes "Intersection(") (map index_scan_text ss)

abbrev mutual
  -- a step of a plan over the records of the type of this name
  pub node_text : List ℕ → Node → List ℕ
  node_text name (scan s) = scan_text (codes "Scan(") name s.range s.reverse
  node_text name (fetch s) = codes "Fetch(" ++ source_text s ++ codes ")"
  node_text name (filtered f n) =
      codes "Filter(" ++ compact_text (filter_data f) ++ codes "," ++ (node_text name n ++ codes ")")
  node_text name (union ns) = bracketed (codes "Union(") (node_texts name ns)
  node_text name (unordered_union ns) = bracketed (codes "UnorderedUnion(") (node_texts name ns)
  node_text name (distinct n) = codes "Distinct(" ++ (node_text name n ++ codes ")")

  pub node_texts : List ℕ → Nodes → List (List ℕ)
  node_texts name no_nodes = []
  node_texts name (node n ns) = node_text name n ∷ node_texts name ns

-- the text of a plan: that of its last step
abbrev pub plan_text : Plan → List ℕ
plan_text plan = node_text plan.definition.name plan.root
