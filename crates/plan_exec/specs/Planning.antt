-- What the plan of a query does over each store that was opened so.
use Rattle.std.specs.Prelude.{◌≡◌, List, Some, Contains}
use Rattle.std.specs.FinMap.{entries}
use Rattle.kv_core.specs.Map.{Map}
use Rattle.metadata.specs.declared.index.IndexDefinition.{IndexDefinition}
use Rattle.metadata.specs.Record.{Record}
use Rattle.metadata.specs.Records.{of_type}
use Rattle.record_store.specs.Call.{AtStore, IsOpenAs, Opened}
use Rattle.record_store.specs.Store.{Store}
use Rattle.query.specs.Query.{Query, Allows}
use Rattle.planner.specs.Meaning.{rows_of}
use Rattle.planner.specs.Plan.{Plan}
use Rattle.planner.specs.Right.{indexes_of}
use Rattle.plan_exec.specs.Scannable.{IsScannable}

-- the indexes that the plan scans may be scanned in each store that was opened so
abbrev pub ScansReadable : Opened → Plan → Type 0
ScansReadable opened plan =
    (store : Store) (i : IndexDefinition) → IsOpenAs opened store → Contains (indexes_of plan.root) i →
    IsScannable store plan.definition i

-- over each map that holds a store that was opened so, the plan has rows, and the query allows them over the store's
-- records of the type
abbrev pub AnswersQuery : Opened → Query → Plan → Type 0
AnswersQuery opened query plan =
    (m : Map) → AtStore opened m (λ store.
    (rows : List Record) × (rows_of opened.prefix (entries m) plan.definition plan ≡ Some rows)
    × Allows query (of_type plan.definition.number store.records) rows)
