-- An open store and its transaction over a database of one thread: what its calls establish.
use Rattle.std.specs.Prelude.{◌≡◌, ℕ, List, [], Option, Some, None, Ok, All, IsTrue, IsFalse}
use Rattle.kv_core.specs.Range.{KeyRange}
use Rattle.kv_core.specs.declared.change.CommitRequest.{CommitRequest}
use Rattle.kv_core.specs.declared.snapshot.ReadError.{ReadError}
use Rattle.cluster_core.specs.Cluster.{ClusterState, database_at, tier_of}
use Rattle.cluster_core.specs.Refusing.{MayRefuse}
use Rattle.metadata.specs.declared.cells.Cell.{Cell}
use Rattle.metadata.specs.Answers.{IsRefusedAs}
use Rattle.metadata.specs.declared.definition.TypeDefinition.{TypeDefinition}
use Rattle.metadata.specs.Record.{Record, record_of}
use Rattle.metadata.specs.Records.{of_type}
use Rattle.metadata.specs.Schema.{Schema, find_type}
use Rattle.record_store.specs.Call.{AtStore, Call, IsAnswered, IsRefused, Opened}
use Rattle.record_store.specs.Calls.{index_states, save_call}
use Rattle.record_store.specs.Layout.{first_prefix}
use Rattle.record_store.specs.Opening.{IsNewStore, IsOpened, IsUncreated, IsUnopened}
use Rattle.record_store.specs.Steps.{DidRead}
use Rattle.query.specs.Checked.{query_refusal}
use Rattle.query.specs.Query.{Allows}
use Rattle.query.specs.View.{query_of}
use Rattle.query.specs.declared.filter.Query.{Query}
use Rattle.planner.specs.Asked.{AskedPlan}
use Rattle.planner.specs.Choice.{IsChosen}
use Rattle.planner.specs.Planned.{planned}
use Rattle.planner.specs.Right.{IsRightFor, indexes_of, is_served}
use Rattle.planner.specs.Rules.{MayBeUsed, usable}
use Rattle.planner.specs.View.{plan_of}
use Rattle.planner.specs.declared.plan.PlanError.TheVariants.{SortNotServed}
use Rattle.plan_exec.specs.Executing.{IsExecuted, IsExecutionRefused}
use Rattle.plan_exec.specs.Planning.{AnswersQuery, ScansReadable}
use Rattle.plan_exec.specs.declared.error.ExecError.TheVariants as execution
use Rattle.record_layer.specs.declared.error.Error.{Error}
use Rattle.record_layer.specs.declared.error.Error.TheVariants as errors
use Rattle.record_layer.specs.declared.not_done.NotDone.{NotDone}
use Rattle.record_layer.specs.declared.not_done.NotDone.TheVariants.{Refused, NotCommitted}
use Rattle.record_layer.specs.Databases.{DatabaseView, IsCommit, IsNotCommitted}

-- the database's cluster, the open store, and its transaction so far
pub record SessionView : Type 0 where
  pub cluster : ClusterState
  pub store : Opened
  pub tx : CommitRequest

-- a transaction at the newest version, which has done nothing yet
abbrev pub begun_over : ClusterState → CommitRequest
begun_over cluster = record { read_version = cluster.pipeline.reported; reads = []; mutations = [] }

-- with what a read of the database may be refused
abbrev pub refused_over : ClusterState → KeyRange → ℕ → ReadError → Type 0
refused_over cluster = MayRefuse (tier_of cluster)

-- ---- a store is made and opened

-- a session was opened: just what an opening reads was read, in a new transaction
pub record IsSession (db : DatabaseView) (session : SessionView) : Type 0 where
  pub cluster : session.cluster ≡ db.cluster
  pub prefix : session.store.prefix ≡ first_prefix
  pub opened : IsOpened (database_at db.cluster) session.store (begun_over db.cluster) session.tx

-- why none was
abbrev pub IsNoSession : Error → DatabaseView → Type 0
IsNoSession (errors.Store error) db =
    (tx : CommitRequest)
    × IsUnopened (database_at db.cluster) (refused_over db.cluster) first_prefix error (begun_over db.cluster) tx
IsNoSession error db = ⊥

-- a new transaction makes the store, of this schema
abbrev pub MakesStore : Schema → CommitRequest → DatabaseView → Type 0
MakesStore schema tx db =
    (store : Opened) × IsNewStore (database_at db.cluster) first_prefix schema (begun_over db.cluster) tx store

-- the store was made in a transaction of its own, which is committed at this version
abbrev pub IsStoreMade : Schema → ℕ → DatabaseView → DatabaseView → Type 0
IsStoreMade schema version old new = (tx : CommitRequest) × MakesStore schema tx old × IsCommit tx version old new

-- why no transaction makes it
abbrev pub IsUnmakeable : Schema → Error → DatabaseView → Type 0
IsUnmakeable schema (errors.Store error) db =
    (tx : CommitRequest)
    × IsUncreated (database_at db.cluster) (refused_over db.cluster)
    (record { prefix = first_prefix; schema = schema; states = [] }) error (begun_over db.cluster) tx
IsUnmakeable schema error db = ⊥

-- it wasn't made, and nothing has changed; or what makes it isn't committed, or isn't known to be
abbrev pub IsUnmade : Schema → NotDone → DatabaseView → DatabaseView → Type 0
IsUnmade schema (Refused error) old new = (new ≡ old) × IsUnmakeable schema error old
IsUnmade schema (NotCommitted why) old new =
    (tx : CommitRequest) × MakesStore schema tx old × IsNotCommitted why tx old new

-- ---- calls in a session

-- just the transaction may have changed
abbrev pub IsSameSession : SessionView → SessionView → Type 0
IsSameSession old new = new ≡ record old { tx = new.tx }

-- the call on the store is answered
abbrev pub IsAnsweredIn : {A : Type 0} → Call A → A → SessionView → SessionView → Type 0
IsAnsweredIn call answer old new =
    IsSameSession old new × IsAnswered (database_at old.cluster) old.store call answer old.tx new.tx

-- why it isn't: as the call on the store, or memory ran out before it
abbrev pub IsRefusedIn : {A : Type 0} → Call A → Error → SessionView → SessionView → Type 0
IsRefusedIn call (errors.Store error) old new =
    IsSameSession old new
    × IsRefused (database_at old.cluster) (refused_over old.cluster) old.store call error old.tx new.tx
IsRefusedIn call errors.Memory old new = new ≡ old
IsRefusedIn call error old new = ⊥

-- the record of the type of this name with these cells is saved
abbrev pub IsSavedIn : List ℕ → List Cell → Option Record → SessionView → SessionView → Type 0
IsSavedIn name cells replaced old new =
    (made : Record) × (record_of old.store.schema name cells ≡ Ok made)
    × IsAnsweredIn (save_call old.store made) replaced old new

-- there is no such record, or it isn't saved
abbrev pub IsUnsavedIn : List ℕ → List Cell → Error → SessionView → SessionView → Type 0
IsUnsavedIn name cells (errors.Schema error) old new =
    (new ≡ old) × IsRefusedAs error (record_of old.store.schema name cells)
IsUnsavedIn name cells error old new =
    (made : Record) × (record_of old.store.schema name cells ≡ Ok made)
    × IsRefusedIn (save_call old.store made) error old new

-- the plan is executed: these are its rows
abbrev pub IsExecutedIn : AskedPlan → List Record → SessionView → SessionView → Type 0
IsExecutedIn plan rows old new =
    IsSameSession old new × IsExecuted (database_at old.cluster) old.store plan rows old.tx new.tx

-- why it isn't
abbrev pub IsUnexecutedIn : AskedPlan → Error → SessionView → SessionView → Type 0
IsUnexecutedIn plan (errors.Execution error) old new =
    IsSameSession old new
    × IsExecutionRefused (database_at old.cluster) (refused_over old.cluster) old.store plan error old.tx new.tx
IsUnexecutedIn plan error old new = ⊥

-- the query may be asked under the store's schema, and the plan is the planner's for it, by that schema and the states
-- of its indexes
pub record IsPlanIn (query : Query) (plan : AskedPlan) (store : Opened) : Type 0 where
  pub may : query_refusal store.schema (query_of query) ≡ None
  pub asked : query_of plan.query ≡ query_of query
  pub typed : find_type store.schema query.record_type ≡ Some plan.definition
  -- a path serves the sort, and this is the plan, of the paths that it is to scan
  pub served : IsTrue (is_served store.schema (index_states store) (query_of query))
  pub is :
      planned plan.definition (usable store.schema (index_states store) plan.definition) (query_of query)
      ≡ Some (plan_of plan).root
  pub chosen :
      IsChosen plan.definition (usable store.schema (index_states store) plan.definition) (query_of query)
      (plan_of plan).root
  -- it scans what may be scanned
  pub uses : All (MayBeUsed store.schema (index_states store) plan.definition) (indexes_of (plan_of plan).root)
  pub scannable : ScansReadable store (plan_of plan)
  -- its rows answer the query: over all pairs that are exact, and so over the store
  pub right : IsRightFor (query_of query) (plan_of plan)
  pub answers : AnswersQuery store (query_of query) (plan_of plan)

-- why a query has no plan over the store: it may not be asked; or it may, and no path serves its sort, or memory runs
-- out
abbrev pub HasNoPlan : Query → Error → Opened → Type 0
HasNoPlan query (errors.Query error) store = query_refusal store.schema (query_of query) ≡ Some error
HasNoPlan query (errors.Plan error) store =
    (query_refusal store.schema (query_of query) ≡ None)
    × (error ≡ SortNotServed → IsFalse (is_served store.schema (index_states store) (query_of query)))
HasNoPlan query error store = ⊥

-- the rows answer the query over the records of its type that the session sees: in each store that was opened so, in
-- whatever map agrees with what it has read
pub record AreAnswersIn (query : Query) (rows : List Record) (old new : SessionView) : Type 0 where
  pub type : TypeDefinition
  pub named : find_type old.store.schema query.record_type ≡ Some type
  pub added : List KeyRange
  pub ran :
      DidRead (database_at old.cluster) added old.tx new.tx
      (λ m. AtStore old.store m (λ store. Allows (query_of query) (of_type type.number store.records) rows))

-- they are those of a plan of the query
abbrev pub IsFoundIn : Query → List Record → SessionView → SessionView → Type 0
IsFoundIn query rows old new =
    (plan : AskedPlan) × IsPlanIn query plan old.store × IsExecutedIn plan rows old new

-- the query has no plan, and nothing was read; or it has one, which the store accepts, and it isn't executed
abbrev pub IsUnfoundIn : Query → Error → SessionView → SessionView → Type 0
IsUnfoundIn query (errors.Execution execution.OtherSchema) old new = ⊥
IsUnfoundIn query (errors.Execution execution.IndexNotReadable) old new = ⊥
IsUnfoundIn query (errors.Execution error) old new =
    (plan : AskedPlan) × IsPlanIn query plan old.store × IsUnexecutedIn plan (errors.Execution error) old new
IsUnfoundIn query error old new = (new ≡ old) × HasNoPlan query error old.store
