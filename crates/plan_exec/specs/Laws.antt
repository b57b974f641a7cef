-- What the map of a store gives the plans of queries.
use Rattle.std.specs.Prelude.{◌≡◌, ℕ, List, Some, All, Contains}
use Rattle.std.specs.FinMap.{entries}
use Rattle.kv_core.specs.Map.{Map}
use Rattle.metadata.specs.declared.definition.TypeDefinition.{TypeDefinition}
use Rattle.metadata.specs.declared.index.IndexDefinition.{IndexDefinition}
use Rattle.metadata.specs.declared.index.State.{State}
use Rattle.metadata.specs.Record.{Record}
use Rattle.metadata.specs.Records.{of_type}
use Rattle.metadata.specs.Schema.{find_type}
use Rattle.metadata.specs.Stored.{IsTypeOf}
use Rattle.record_store.specs.Call.{IsOpenAs, Opened}
use Rattle.record_store.specs.Calls.{index_states}
use Rattle.record_store.specs.Holds.{Holds}
use Rattle.record_store.specs.Store.{Store}
use Rattle.query.specs.Query.{Query, Allows}
use Rattle.planner.specs.Exact.{IsExact}
use Rattle.planner.specs.Meaning.{rows_of}
use Rattle.planner.specs.Plan.{Plan}
use Rattle.planner.specs.Right.{Extends, IsRightFor, indexes_of}
use Rattle.planner.specs.Rules.{MayBeUsed}
use Rattle.plan_exec.specs.Scannable.{AreStatesOf, IsScannable}

-- EXACT: the map of a store has exactly the records of a type of its schema, and their entries in readable indexes
abbrev pub StoresAreExact : Type 0
StoresAreExact =
    (prefix : List ℕ) (m : Map) (store : Store) (t : TypeDefinition) (indexes : List IndexDefinition) →
    Holds prefix m (Some store) → IsTypeOf store.schema t →
    ((i : IndexDefinition) → Contains indexes i → IsScannable store t i) →
    IsExact prefix (entries m) t indexes (of_type t.number store.records)

-- USABLE: an index that may be used by the store's schema and the states of its indexes is one that may be scanned
abbrev pub UsableAreScannable : Type 0
UsableAreScannable =
    (store : Store) (states : List (ℕ × State)) (t : TypeDefinition) (i : IndexDefinition) →
    AreStatesOf store states → MayBeUsed store.schema states t i → IsScannable store t i

-- STATES: the states that an open store tells are those of each store that was opened so
abbrev pub StatesAreTold : Type 0
StatesAreTold = (opened : Opened) (store : Store) → IsOpenAs opened store → AreStatesOf store (index_states opened)

-- ANSWERS: over the map of a store that has its type, perhaps with fields appended, and whose indexes may be scanned, a
-- plan that is right for a query has rows, and the query allows them over the store's records of the type
abbrev pub PlansAnswer : Type 0
PlansAnswer =
    (prefix : List ℕ) (m : Map) (store : Store) (query : Query) (plan : Plan) (t : TypeDefinition) →
    Holds prefix m (Some store) → IsRightFor query plan → IsTypeOf store.schema t → Extends plan.definition t →
    ((i : IndexDefinition) → Contains (indexes_of plan.root) i → IsScannable store t i) →
    (rows : List Record) × (rows_of prefix (entries m) t plan ≡ Some rows)
    × Allows query (of_type t.number store.records) rows

-- PLANNED: so it is for a plan that is right for a query, of the type of the store's schema that the query names, and
-- scans only indexes that may be used by that schema and the states of its indexes
abbrev pub PlannedAnswer : Type 0
PlannedAnswer =
    (prefix : List ℕ) (m : Map) (store : Store) (states : List (ℕ × State)) (query : Query) (plan : Plan) →
    Holds prefix m (Some store) → AreStatesOf store states → IsRightFor query plan →
    find_type store.schema query.record_type ≡ Some plan.definition →
    All (MayBeUsed store.schema states plan.definition) (indexes_of plan.root) →
    (rows : List Record) × (rows_of prefix (entries m) plan.definition plan ≡ Some rows)
    × Allows query (of_type plan.definition.number store.records) rows
