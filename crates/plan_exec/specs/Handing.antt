-- How rows are handed to a closure one by one, and what is read until it refuses one. A closure's `step` says which
-- call takes it from one state to another.
use Rattle.std.specs.Prelude.{◌≡◌, ℕ, zero, suc, List, [], ◌∷◌, ◌++◌, length, Result, Ok, Err}
use Rattle.std.specs.List.{FoldsTo}
use Rattle.std.specs.FinMap.{entries}
use Rattle.kv_core.specs.Map.{Map}
use Rattle.kv_core.specs.Range.{KeyRange}
use Rattle.kv_core.specs.declared.change.CommitRequest.{CommitRequest}
use Rattle.metadata.specs.declared.definition.TypeDefinition.{TypeDefinition}
use Rattle.metadata.specs.Record.{Record}
use Rattle.record_store.specs.Call.{Opened}
use Rattle.record_store.specs.Steps.{DidRead}
use Rattle.planner.specs.Asked.{AskedPlan}
use Rattle.planner.specs.View.{plan_of}
use Rattle.plan_exec.specs.Accepting.{Accepts}
use Rattle.plan_exec.specs.Course.{Course, fails, finds, node_course, reads}
use Rattle.plan_exec.specs.Executing.{HasBegun, ranges_added}
use Rattle.plan_exec.specs.Reads.{PlanRead}

module _ {F X E : Type 0} (step : F → X → Result Unit E → F → Type 0) where
  -- the closure is called with each of these, in their order, and takes it
  abbrev pub TakesEach : F → List X → F → Type 0
  TakesEach old xs new = FoldsTo (λ before x after. step before x (Ok tt) after) old xs new

  -- the closure is called with each of these, in their order, and takes all of them but the last one, which it refuses
  abbrev pub RefusesLast : F → List X → F → Type 0
  RefusesLast old xs new =
      (first : List X) × (last : X) × (xs ≡ first ++ last ∷ []) × (before : F) × TakesEach old first before
      × (error : E) × step before last (Err error) new

-- what is read until so many things are found
abbrev pub reads_until : {A : Type 0} → ℕ → Course A → List PlanRead
reads_until zero course = []
reads_until (suc n) [] = []
reads_until (suc n) (reads read ∷ course) = read ∷ reads_until (suc n) course
reads_until (suc n) (finds a ∷ course) = reads_until n course
reads_until (suc n) (fails key ∷ course) = []

-- a plan that the store accepts was executed until these rows were found, and no further
pub record IsExecutedUntil (maps : ℕ → Map) (opened : Opened) (plan : AskedPlan) (rows : List Record)
    (old new : CommitRequest) : Type 0 where
  pub type : TypeDefinition
  pub accepted : Accepts opened (plan_of plan) type
  pub added : List KeyRange
  pub ran :
      DidRead maps added old new (λ m.
      (added
      ≡ ranges_added (reads_until (length rows) (node_course opened.prefix (entries m) type (plan_of plan).root)))
      × HasBegun opened plan type rows m)
