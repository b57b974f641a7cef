-- When a plan is right for a query: over all pairs that are exactly the records and their entries, its rows are the
-- query's.
use Rattle.std.specs.Prelude.{◌≡◌, ℕ, Bool, false, ◌||◌, List, [], ◌∷◌, ◌++◌, Some, Contains}
use Rattle.std.specs.List.{list_any}
use Rattle.std.specs.Option.{option_map_or}
use Rattle.metadata.specs.declared.definition.Field.{Field}
use Rattle.metadata.specs.declared.index.IndexDefinition.{IndexDefinition}
use Rattle.metadata.specs.declared.index.IndexKind.TheVariants.{Value}
use Rattle.metadata.specs.Record.{Record}
use Rattle.metadata.specs.Schema.{Schema}
use Rattle.metadata.specs.declared.index.State.{State}
use Rattle.metadata.specs.declared.definition.TypeDefinition.{TypeDefinition}
use Rattle.metadata.specs.Layout.{Pair}
use Rattle.query.specs.Filter.{conjuncts}
use Rattle.query.specs.Query.{Query, Allows}
use Rattle.metadata.specs.Schema.{find_type}
use Rattle.planner.specs.Match.{numbered_filters, serves, paths}
use Rattle.planner.specs.Plan.{Plan, IndexScan, Source, one, intersection, Node, scan, fetch, filtered, union}
use Rattle.planner.specs.Plan.{unordered_union, distinct, Nodes, no_nodes, node}
use Rattle.planner.specs.Planned.{is_empty}
use Rattle.planner.specs.Rules.{usable}
use Rattle.planner.specs.Meaning.{rows_of}
use Rattle.planner.specs.Exact.{IsExact}
use Rattle.planner.specs.Rising.{MergesRising}

-- the type is the same one, perhaps with fields appended
pub record Extends (old new : TypeDefinition) : Type 0 where
  pub more : List Field
  pub same_number : new.number ≡ old.number
  pub same_name : new.name ≡ old.name
  pub same_key : new.key ≡ old.key
  pub same_fields : new.fields ≡ old.fields ++ more

abbrev pub indexes_of_scans : List IndexScan → List IndexDefinition
indexes_of_scans [] = []
indexes_of_scans (s ∷ ss) = s.index ∷ indexes_of_scans ss

abbrev pub source_indexes : Source → List IndexDefinition
source_indexes (one s) = s.index ∷ []
source_indexes (intersection ss) = indexes_of_scans ss

-- the indexes that a plan scans
abbrev mutual
  pub indexes_of : Node → List IndexDefinition
  indexes_of (scan s) = []
  indexes_of (fetch s) = source_indexes s
  indexes_of (filtered f n) = indexes_of n
  indexes_of (union ns) = indexes_of_all ns
  indexes_of (unordered_union ns) = indexes_of_all ns
  indexes_of (distinct n) = indexes_of n

  pub indexes_of_all : Nodes → List IndexDefinition
  indexes_of_all no_nodes = []
  indexes_of_all (node n ns) = indexes_of n ++ indexes_of_all ns

-- over all pairs that are exact for the plan's type and indexes, the plan has rows, and the query allows them
abbrev pub IsRightFor : Query → Plan → Type 0
IsRightFor query plan =
    (prefix : List ℕ) (pairs : List Pair) (t : TypeDefinition) (records : List Record) →
    Extends plan.definition t → IsExact prefix pairs t (indexes_of plan.root) records →
    (rows : List Record) × (rows_of prefix pairs t plan ≡ Some rows) × Allows query records rows

-- a VALUE index over the type
pub record IsValueOver (t : TypeDefinition) (i : IndexDefinition) : Type 0 where
  pub kind : i.kind ≡ Value
  pub type : i.type_number ≡ t.number

-- the indexes that a plan scans are all VALUE indexes over its type
abbrev pub ScansOwn : Plan → Type 0
ScansOwn plan = (i : IndexDefinition) → Contains (indexes_of plan.root) i → IsValueOver plan.definition i

-- Private: a plan for a query: of the type that the query names, scanning VALUE indexes over that type alone, right for
-- the query, and merging only what rises by primary key
pub record IsPlanFor (query : Query) (plan : Plan) : Type 0 where
  pub typed : plan.definition.name ≡ query.record_type
  pub over : ScansOwn plan
  pub right : IsRightFor query plan
  pub merges : MergesRising plan.root

-- whether a path to the records of the type serves the query's sort
abbrev pub has_sorted_path : Schema → List (ℕ × State) → Query → TypeDefinition → Bool
has_sorted_path schema states query t =
    list_any (serves t (numbered_filters (conjuncts query.filter)) query.sort) (paths (usable schema states t))

-- whether the query asks for no sort, or a path serves it
abbrev pub is_served : Schema → List (ℕ × State) → Query → Bool
is_served schema states query =
    is_empty query.sort || option_map_or (has_sorted_path schema states query)
    (find_type schema query.record_type) false
