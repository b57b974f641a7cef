-- What executing a plan may read: keys of its scans, and records to which the entries lead that its scans have.
use Rattle.std.specs.Prelude.{◌≡◌, ◌⊎◌, ℕ, Bool, IsTrue, List, Some, All, Contains}
use Rattle.kv_core.specs.Range.{KeyRange, contains, point}
use Rattle.metadata.specs.declared.cells.Cell.{Cell}
use Rattle.metadata.specs.declared.definition.TypeDefinition.{TypeDefinition}
use Rattle.metadata.specs.declared.index.IndexDefinition.{IndexDefinition}
use Rattle.metadata.specs.Cell.{items_of}
use Rattle.metadata.specs.Layout.{Pair, entries_prefix, record_key, records_prefix}
use Rattle.planner.specs.Layout.{entry_primary_key}
use Rattle.planner.specs.Match.{Path, primary, along}
use Rattle.planner.specs.Plan.{Node}
use Rattle.planner.specs.Range.{behind, range_has}
use Rattle.planner.specs.Scanned.{PathScan, scans_of}
use Rattle.plan_exec.specs.Course.{node_course}
use Rattle.plan_exec.specs.Executing.{asks_of, ranges_added, reads_of}
use Rattle.plan_exec.specs.Handing.{reads_until}

-- what the keys along a path begin with, by the store's prefix and its type
abbrev pub path_prefix : List ℕ → TypeDefinition → Path → List ℕ
path_prefix prefix t primary = records_prefix prefix t.number
path_prefix prefix t (along i) = entries_prefix prefix i.number

-- whether a scan has a key in its range
abbrev pub scan_has : List ℕ → TypeDefinition → PathScan → List ℕ → Bool
scan_has prefix t s key = range_has (behind (path_prefix prefix t s.path) s.range) key

-- each key of the range is one that a scan among these has
pub record IsOfScan (prefix : List ℕ) (t : TypeDefinition) (scans : List PathScan) (range : KeyRange) : Type 0 where
  pub scan : PathScan
  pub planned : Contains scans scan
  pub within : (key : List ℕ) → IsTrue (contains range key) → IsTrue (scan_has prefix t scan key)

-- the range is the key of one record: its primary key stands in an entry among these pairs, which a scan has
pub record IsOfEntry (prefix : List ℕ) (pairs : List Pair) (t : TypeDefinition) (scans : List PathScan)
    (range : KeyRange) : Type 0 where
  pub scan : PathScan
  pub planned : Contains scans scan
  pub index : IndexDefinition
  pub path : scan.path ≡ along index
  pub entry : Pair
  pub there : Contains pairs entry
  pub within : IsTrue (scan_has prefix t scan entry.0)
  pub key : List Cell
  pub leads : entry_primary_key prefix t index entry ≡ Some key
  pub is : range ≡ point (record_key prefix (items_of key))

-- with these scans the range may be read
abbrev pub MayRead : List ℕ → List Pair → TypeDefinition → List PathScan → KeyRange → Type 0
MayRead prefix pairs t scans range = IsOfScan prefix t scans range ⊎ IsOfEntry prefix pairs t scans range

-- WITHIN: whatever pairs the map has, each range that the steps of a plan ask for, and each that they keep as read, is
-- one that its scans may read
abbrev pub PlansReadTheirScans : Type 0
PlansReadTheirScans =
    (prefix : List ℕ) (pairs : List Pair) (t : TypeDefinition) (n : Node) →
    All (MayRead prefix pairs t (scans_of n)) (asks_of prefix pairs t n)
    × All (MayRead prefix pairs t (scans_of n)) (reads_of prefix pairs t n)

-- UNTIL: so it is where they stop once so many rows are found
abbrev pub PlansReadTheirScansUntil : Type 0
PlansReadTheirScansUntil =
    (prefix : List ℕ) (pairs : List Pair) (t : TypeDefinition) (n : Node) (count : ℕ) →
    All (MayRead prefix pairs t (scans_of n)) (ranges_added (reads_until count (node_course prefix pairs t n)))
