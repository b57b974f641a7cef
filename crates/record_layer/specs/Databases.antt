-- A database of one thread, and what becomes of a commit there.
use Rattle.std.specs.Prelude.{◌≡◌, ◌⊎◌, ◌<◌, ◌≤◌, All, Bool, true, false, ℕ, Option, None, Some, List, length}
use Rattle.kv_core.specs.declared.change.CommitRequest.{CommitRequest}
use Rattle.cluster_core.specs.declared.answers.Reported.{Reported}
use Rattle.cluster_core.specs.declared.answers.Reported.TheVariants.{Committed, Conflict as ReportedConflict}
use Rattle.cluster_core.specs.declared.answers.SubmitError.TheVariants.{Memory}
use Rattle.cluster_core.specs.Cluster.{ClusterState, IsReadable}
use Rattle.cluster_core.specs.Roles.{PipelineState, all_handled, forget, is_caught_up, outcome, submit, submit_refusal}
use Rattle.cluster_core.specs.Roles.{submitted}
use Rattle.commits.specs.Finishing.{HasGoneOn, IsUnfinished}
use Rattle.commits.specs.Holds.{verdict}
use Rattle.record_layer.specs.declared.database.NotCommitted.{NotCommitted}
use Rattle.record_layer.specs.declared.database.NotCommitted.TheVariants.{Conflict, Later, Refused, Unknown, Unsettled}

-- its cluster, and whether what became of each request so far is known
pub record DatabaseView : Type 0 where
  pub cluster : ClusterState
  pub is_settled : Bool

-- what the resolvers decide of the last request that was submitted
abbrev pub last_told : DatabaseView → Reported
last_told db = outcome db.cluster.pipeline (submitted db.cluster.pipeline)

-- the last request that was submitted is committed at this version
abbrev pub IsCommittedAt : ℕ → DatabaseView → Type 0
IsCommittedAt version db = last_told db ≡ Committed version

-- the request was submitted: no earlier one is unsettled, and it isn't refused
abbrev pub IsTaken : CommitRequest → DatabaseView → Type 0
IsTaken request old =
    (old.is_settled ≡ true) × (submit_refusal old.cluster.pipeline request.read_version ≡ None)

-- every role has handled what stood submitted, and nothing else, and no bytes are kept of requests that no role asks
-- for again
pub record IsFinished (standing : PipelineState) (new : DatabaseView) : Type 0 where
  pub handled : new.cluster.pipeline ≡ forget (all_handled standing)
  pub settled : new.is_settled ≡ true

-- the request was taken, and is committed at this version, as the resolvers decide
pub record IsCommit (request : CommitRequest) (version : ℕ) (old new : DatabaseView) : Type 0 where
  pub taken : IsTaken request old
  pub finished : IsFinished (submit request old.cluster.pipeline) new
  pub decided : verdict request new.cluster.pipeline ≡ Committed version

-- whether a newer version wrote what the request read
abbrev pub is_conflict : NotCommitted → Bool
is_conflict (Conflict seen range) = true
is_conflict why = false

-- what stood submitted still does, and isn't reported yet
pub record IsWaiting (standing : PipelineState) (new : DatabaseView) : Type 0 where
  pub stands : HasGoneOn standing new.cluster.pipeline
  pub unsettled : new.is_settled ≡ false

-- why a request isn't committed, or isn't known to be, and what stands then
abbrev pub IsNotCommitted : NotCommitted → CommitRequest → DatabaseView → DatabaseView → Type 0
IsNotCommitted (Conflict seen range) request old new =
    IsTaken request old × IsFinished (submit request old.cluster.pipeline) new
    × (verdict request new.cluster.pipeline ≡ ReportedConflict seen range)
IsNotCommitted Later request old new =
    (new ≡ old) × (old.cluster.pipeline.reported < request.read_version)
IsNotCommitted (Refused error) request old new =
    (new ≡ old) × ((error ≡ Memory) ⊎ (submit_refusal old.cluster.pipeline request.read_version ≡ Some error))
IsNotCommitted Unknown request old new =
    IsTaken request old × IsWaiting (submit request old.cluster.pipeline) new
IsNotCommitted Unsettled request old new = (new ≡ old) × (old.is_settled ≡ false)

-- the last request is settled: nothing was left of it, or it is committed at this version
abbrev pub IsSettledAs : Option ℕ → DatabaseView → DatabaseView → Type 0
IsSettledAs None old new = (new ≡ old) × (old.is_settled ≡ true)
IsSettledAs (Some version) old new =
    (old.is_settled ≡ false) × IsFinished old.cluster.pipeline new × IsCommittedAt version new

-- why the last request isn't committed, or still isn't known to be: there is no other answer
abbrev pub IsNotSettledAs : NotCommitted → DatabaseView → DatabaseView → Type 0
IsNotSettledAs (Conflict seen range) old new =
    (old.is_settled ≡ false) × IsFinished old.cluster.pipeline new × (last_told new ≡ ReportedConflict seen range)
IsNotSettledAs Unknown old new = (old.is_settled ≡ false) × IsWaiting old.cluster.pipeline new
IsNotSettledAs Later old new = ⊥
IsNotSettledAs (Refused error) old new = ⊥
IsNotSettledAs Unsettled old new = ⊥

-- Private: each server has what is reported, and of what was submitted all is reported, or just the last request isn't
pub record IsDatabase (cluster : ClusterState) (is_settled : Bool) : Type 0 where
  pub readable : IsReadable cluster
  pub settled : is_settled ≡ true → is_caught_up cluster.pipeline
  pub unfinished : is_settled ≡ false → IsUnfinished cluster.pipeline × (1 ≤ length cluster.pipeline.requests)

-- Private: these clocks have come as far as what was submitted
abbrev pub HaveAll : PipelineState → List ℕ → Type 0
HaveAll p clocks = All (λ clock. submitted p ≤ clock) clocks
