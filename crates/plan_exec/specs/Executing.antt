-- What an execution of a plan establishes, whatever map the snapshot turns out to have.
use Rattle.std.specs.Prelude.{◌≡◌, ℕ, List, [], map, Option, Some, None, Ok}
use mathlib.Core.List.{IsPrefix}
use Rattle.std.specs.FinMap.{entries}
use Rattle.std.specs.Result.{result_err}
use Rattle.kv_core.specs.Map.{Map}
use Rattle.kv_core.specs.Range.{KeyRange}
use Rattle.kv_core.specs.declared.change.CommitRequest.{CommitRequest}
use Rattle.kv_core.specs.declared.snapshot.ReadError.{ReadError}
use Rattle.metadata.specs.declared.definition.TypeDefinition.{TypeDefinition}
use Rattle.metadata.specs.Record.{Record}
use Rattle.metadata.specs.Records.{of_type}
use Rattle.record_store.specs.Call.{AtStore, Opened}
use Rattle.record_store.specs.Steps.{DidRead, IsBeginning, IsNextRefused}
use Rattle.metadata.specs.Layout.{Pair}
use Rattle.query.specs.Query.{Allows}
use Rattle.query.specs.View.{query_of}
use Rattle.planner.specs.Asked.{AskedPlan}
use Rattle.planner.specs.Meaning.{rows_of}
use Rattle.planner.specs.Plan.{Node}
use Rattle.planner.specs.View.{plan_of}
use Rattle.plan_exec.specs.Accepting.{Accepts, IsNotAccepted}
use Rattle.plan_exec.specs.Course.{found_before, node_course, outcome_of}
use Rattle.plan_exec.specs.Reads.{PlanRead, PlanReading}
use Rattle.plan_exec.specs.declared.error.ExecError.{ExecError}
use Rattle.plan_exec.specs.declared.error.ExecError.TheVariants.{OtherSchema, IndexNotReadable, Read, Corrupt, Memory}

-- the ranges that reads ask for, and those that they keep as read
abbrev pub ranges_asked : List PlanRead → List KeyRange
ranges_asked reads = map (λ read. read.asked) reads

abbrev pub ranges_added : List PlanRead → List KeyRange
ranges_added reads = map (λ read. read.added) reads

-- the ranges that the steps of a plan ask for, in reading order, through the one that shows the first damage
abbrev pub asks_of : List ℕ → List Pair → TypeDefinition → Node → List KeyRange
asks_of prefix pairs t n = ranges_asked (outcome_of (node_course prefix pairs t n)).reads

-- the ranges that they keep as read
abbrev pub reads_of : List ℕ → List Pair → TypeDefinition → Node → List KeyRange
reads_of prefix pairs t n = ranges_added (outcome_of (node_course prefix pairs t n)).reads

-- the key of the first damaged pair, if there is one
abbrev pub damage_of : List ℕ → List Pair → TypeDefinition → Node → Option (List ℕ)
damage_of prefix pairs t n = result_err (outcome_of (node_course prefix pairs t n)).found

-- what executing a plan finds in a map: the ranges read are those of the plan, in order, and show no damage, and the
-- rows are its meaning; where the map holds a store that was opened so, its records of the type answer the plan's query
-- by these rows
pub record HasRows (opened : Opened) (plan : AskedPlan) (type : TypeDefinition) (rows : List Record)
    (added : List KeyRange) (m : Map) : Type 0 where
  pub reads : added ≡ reads_of opened.prefix (entries m) type (plan_of plan).root
  pub undamaged : damage_of opened.prefix (entries m) type (plan_of plan).root ≡ None
  pub meaning : rows_of opened.prefix (entries m) type (plan_of plan) ≡ Some rows
  pub answers : AtStore opened m (λ store. Allows (query_of plan.query) (of_type type.number store.records) rows)

-- a plan was executed: the store accepts it, and so it is over every map that agrees with what was read
pub record IsExecuted (maps : ℕ → Map) (opened : Opened) (plan : AskedPlan) (rows : List Record)
    (old new : CommitRequest) : Type 0 where
  pub type : TypeDefinition
  pub accepted : Accepts opened (plan_of plan) type
  pub added : List KeyRange
  pub ran : DidRead maps added old new (HasRows opened plan type rows added)

-- why reads stopped after the ones that were added: memory runs out, or the next read is refused so; or none is, and
-- the first damaged pair has this key
abbrev pub IsExecutionStopped :
    (KeyRange → ReadError → Type 0) → List PlanRead → Option (List ℕ) → ExecError → List KeyRange → Type 0
IsExecutionStopped refuses reads damage Memory added = IsBeginning added (ranges_added reads)
IsExecutionStopped refuses reads damage (Read error) added =
    IsBeginning added (ranges_added reads) × IsNextRefused refuses (ranges_asked reads) added error
IsExecutionStopped refuses reads damage (Corrupt key) added = (added ≡ ranges_added reads) × (damage ≡ Some key)
IsExecutionStopped refuses reads damage error added = ⊥

-- where a damaged pair is told, the plan has no meaning, and the map holds no store that was opened so
abbrev pub HasNoMeaning : Opened → AskedPlan → TypeDefinition → ExecError → Map → Type 0
HasNoMeaning opened plan type (Corrupt key) m =
    (rows_of opened.prefix (entries m) type (plan_of plan) ≡ None) × AtStore opened m (λ store. ⊥)
HasNoMeaning opened plan type error m = Unit {0}

-- what a plan that wasn't executed met in a map
pub record HasNoRows (refuses : KeyRange → ReadError → Type 0) (opened : Opened) (plan : AskedPlan)
    (type : TypeDefinition) (error : ExecError) (added : List KeyRange) (m : Map) : Type 0 where
  pub stopped :
      IsExecutionStopped refuses (outcome_of (node_course opened.prefix (entries m) type (plan_of plan).root)).reads
      (damage_of opened.prefix (entries m) type (plan_of plan).root) error added
  pub damage : HasNoMeaning opened plan type error m

-- a plan that the store accepts wasn't executed
pub record IsUnexecuted (maps : ℕ → Map) (refuses : KeyRange → ℕ → ReadError → Type 0) (opened : Opened)
    (plan : AskedPlan) (error : ExecError) (old new : CommitRequest) : Type 0 where
  pub type : TypeDefinition
  pub accepted : Accepts opened (plan_of plan) type
  pub added : List KeyRange
  pub ran :
      DidRead maps added old new (HasNoRows (λ range. refuses range old.read_version) opened plan type error added)

-- why a plan wasn't executed: the store doesn't accept it, and nothing was read; or it accepts it
abbrev pub IsExecutionRefused :
    (ℕ → Map) → (KeyRange → ℕ → ReadError → Type 0) → Opened → AskedPlan → ExecError → CommitRequest →
    CommitRequest → Type 0
IsExecutionRefused maps refuses opened plan OtherSchema old new =
    IsNotAccepted opened (plan_of plan) OtherSchema × (new ≡ old)
IsExecutionRefused maps refuses opened plan IndexNotReadable old new =
    IsNotAccepted opened (plan_of plan) IndexNotReadable × (new ≡ old)
IsExecutionRefused maps refuses opened plan error old new = IsUnexecuted maps refuses opened plan error old new

-- rows that were handed out before a plan's execution stopped: they begin what its steps find before the first damage,
-- and where the plan has a meaning they begin that
pub record HasBegun (opened : Opened) (plan : AskedPlan) (type : TypeDefinition) (rows : List Record) (m : Map) :
    Type 0 where
  pub found : IsPrefix rows (found_before (node_course opened.prefix (entries m) type (plan_of plan).root))
  pub meaning :
      (all : List Record) → rows_of opened.prefix (entries m) type (plan_of plan) ≡ Some all → IsPrefix rows all

-- the execution of a plan that the store accepts was cut short after these rows
pub record IsCutShort (maps : ℕ → Map) (refuses : KeyRange → ℕ → ReadError → Type 0) (opened : Opened)
    (plan : AskedPlan) (rows : List Record) (error : ExecError) (old new : CommitRequest) : Type 0 where
  pub type : TypeDefinition
  pub accepted : Accepts opened (plan_of plan) type
  pub added : List KeyRange
  pub ran :
      DidRead maps added old new
      (λ m. HasNoRows (λ range. refuses range old.read_version) opened plan type error added m
      × HasBegun opened plan type rows m)

-- why not all rows were handed out, but these: the store doesn't accept the plan, and nothing was read; or it accepts
-- it
abbrev pub IsGivenBefore :
    (ℕ → Map) → (KeyRange → ℕ → ReadError → Type 0) → Opened → AskedPlan → List Record → ExecError → CommitRequest →
    CommitRequest → Type 0
IsGivenBefore maps refuses opened plan rows OtherSchema old new =
    IsNotAccepted opened (plan_of plan) OtherSchema × (rows ≡ []) × (new ≡ old)
IsGivenBefore maps refuses opened plan rows IndexNotReadable old new =
    IsNotAccepted opened (plan_of plan) IndexNotReadable × (rows ≡ []) × (new ≡ old)
IsGivenBefore maps refuses opened plan rows error old new = IsCutShort maps refuses opened plan rows error old new

-- Private: beneath whole plans: a reading was done, and found this
pub record HasFound {A : Type 0} (maps : ℕ → Map) (reading : List Pair → PlanReading A) (found : A)
    (old new : CommitRequest) : Type 0 where
  pub added : List KeyRange
  pub ran :
      DidRead maps added old new
      (λ m. (added ≡ ranges_added (reading (entries m)).reads) × ((reading (entries m)).found ≡ Ok found))

-- Private: so it wasn't done
pub record HasStopped {A : Type 0} (maps : ℕ → Map) (refuses : KeyRange → ℕ → ReadError → Type 0)
    (reading : List Pair → PlanReading A) (error : ExecError) (old new : CommitRequest) : Type 0 where
  pub added : List KeyRange
  pub ran :
      DidRead maps added old new
      (λ m. IsExecutionStopped (λ range. refuses range old.read_version) (reading (entries m)).reads
      (result_err (reading (entries m)).found) error added)
