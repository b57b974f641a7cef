-- Which nodes give rows by rising primary keys whatever the map holds, by their form alone, and which merge only such.
use Rattle.std.specs.Prelude.{◌≡◌, List, [], ◌∷◌, length, All, IsTrue, IsFalse}
use Rattle.std.specs.List.{AllByRecursion}
use Rattle.std.specs.Ordering.{is_le}
use Rattle.tuple_codec.specs.Order.{bytes_cmp}
use Rattle.metadata.specs.declared.cells.Cell.{Cell}
use Rattle.metadata.specs.Cell.{IsCell}
use Rattle.planner.specs.Pack.{pack}
use Rattle.planner.specs.Range.{PlanRange, behind}
use Rattle.planner.specs.Plan.{IndexScan, Source, one, intersection, Node, scan, fetch, filtered, union}
use Rattle.planner.specs.Plan.{unordered_union, distinct, Nodes, no_nodes, node}

-- the scan reads forward, in a range that fixes a cell for each column: keys behind these cells' pack, ended by FF
pub record EntriesRise (s : IndexScan) : Type 0 where
  pub forward : IsFalse s.reverse
  pub cells : List Cell
  pub are_stored : All IsCell cells
  pub each_column : length cells ≡ length s.index.columns
  pub rest : PlanRange
  pub below_ff : IsTrue (is_le (bytes_cmp rest.end (0xff ∷ [])))
  pub in_range : s.range ≡ behind (pack cells) rest

-- the primary keys that a fetch is given rise: an intersection puts them in key order
abbrev pub SourceRises : Source → Type 0
SourceRises (one s) = EntriesRise s
SourceRises (intersection ss) = Unit {0}

-- the node's rows rise by primary key: a union puts them in key order
abbrev pub Rises : Node → Type 0
Rises (scan s) = IsFalse s.reverse
Rises (fetch s) = SourceRises s
Rises (filtered f n) = Rises n
Rises (union ns) = Unit {0}
Rises (unordered_union ns) = ⊥
Rises (distinct n) = Rises n

-- each scan of an intersection rises
abbrev pub MergesEntries : Source → Type 0
MergesEntries (one s) = Unit {0}
MergesEntries (intersection ss) = AllByRecursion EntriesRise ss

abbrev mutual
  -- within the node each part of a union and each scan of an intersection rises
  pub MergesRising : Node → Type 0
  MergesRising (scan s) = Unit {0}
  MergesRising (fetch s) = MergesEntries s
  MergesRising (filtered f n) = MergesRising n
  MergesRising (union ns) = PartsRise ns × PartsMerge ns
  MergesRising (unordered_union ns) = PartsMerge ns
  MergesRising (distinct n) = MergesRising n

  -- the same within each part
  pub PartsMerge : Nodes → Type 0
  PartsMerge no_nodes = Unit {0}
  PartsMerge (node n ns) = MergesRising n × PartsMerge ns

  -- each part rises
  pub PartsRise : Nodes → Type 0
  PartsRise no_nodes = Unit {0}
  PartsRise (node n ns) = Rises n × PartsRise ns
