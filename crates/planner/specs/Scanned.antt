-- The scans of a plan, each as a path within a range.
use Rattle.std.specs.Prelude.{Bool, true, false, ◌&&◌, List, [], ◌∷◌, ◌++◌, map, bytes_eq}
use Rattle.std.specs.List.{list_any}
use Rattle.planner.specs.Range.{PlanRange}
use Rattle.planner.specs.Match.{Path, primary, along}
use Rattle.planner.specs.Plan.{IndexScan, Source, one, intersection, Node, scan, fetch, filtered, union}
use Rattle.planner.specs.Plan.{unordered_union, distinct, Nodes, no_nodes, node}

pub record PathScan : Type 0 where
  pub path : Path
  pub range : PlanRange
  pub reverse : Bool

abbrev pub along_index : IndexScan → PathScan
along_index s = record { path = along s.index; range = s.range; reverse = s.reverse }

abbrev pub source_scans : Source → List PathScan
source_scans (one s) = along_index s ∷ []
source_scans (intersection ss) = map along_index ss

-- all scans of a node, in order
abbrev mutual
  pub scans_of : Node → List PathScan
  scans_of (scan s) = record { path = primary; range = s.range; reverse = s.reverse } ∷ []
  scans_of (fetch s) = source_scans s
  scans_of (filtered f n) = scans_of n
  scans_of (union ns) = scans_of_all ns
  scans_of (unordered_union ns) = scans_of_all ns
  scans_of (distinct n) = scans_of n

  pub scans_of_all : Nodes → List PathScan
  scans_of_all no_nodes = []
  scans_of_all (node n ns) = scans_of n ++ scans_of_all ns

abbrev pub is_primary : Path → Bool
is_primary primary = true
is_primary (along i) = false

-- the full record scan: the primary path from no bytes to FF
abbrev pub is_full : PathScan → Bool
is_full s = is_primary s.path && bytes_eq s.range.begin [] && bytes_eq s.range.end (0xff ∷ [])

-- whether the node has a full record scan
abbrev pub scans_all : Node → Bool
scans_all n = list_any is_full (scans_of n)
