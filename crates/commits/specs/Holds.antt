-- What a commit leaves, with an answer and without one.
use Rattle.std.specs.Prelude.{◌≡◌, ◌⊎◌, ℕ, ◌+◌, ◌<◌, ◌≤◌, Some, None, List, ◌++◌, length, map, take, drop}
use Rattle.kv_core.specs.declared.change.CommitRequest.{CommitRequest}
use Rattle.commits.specs.declared.commit.HoldError.{HoldError}
use Rattle.commits.specs.declared.commit.HoldError.TheVariants.{Submit, Unknown, Behind}
use Rattle.cluster_core.specs.declared.answers.SubmitError.TheVariants.{Memory}
use Rattle.cluster_core.specs.declared.answers.Reported.{Reported}
use Rattle.cluster_core.specs.Cluster.{ClusterState, IsReadable, with_pipeline}
use Rattle.cluster_core.specs.Decision.{cause}
use Rattle.cluster_core.specs.History.{Entry}
use Rattle.cluster_core.specs.Roles.{PipelineState, all_handled, entries, submit, submit_refusal, submitted, told}

-- the clocks, with so many of the first ones a version further
abbrev pub first_raised : ℕ → List ℕ → List ℕ
first_raised count clocks = map (λ clock. clock + 1) (take count clocks) ++ drop count clocks

-- the state where so many of the first resolvers and logs have handled a version more
abbrev pub first_handled : ℕ → ℕ → PipelineState → PipelineState
first_handled resolvers logs p =
    record p { resolved = first_raised resolvers p.resolved; logged = first_raised logs p.logged }

-- Private: the same of a cluster, whose servers stay as they are
abbrev pub with_handled : ℕ → ℕ → ClusterState → ClusterState
with_handled resolvers logs c = with_pipeline (first_handled resolvers logs c.pipeline) c

-- the request with the last version that was given
abbrev pub newest : CommitRequest → PipelineState → Entry
newest request p = record { version = submitted p; request = request }

-- what is told of the request that was submitted last: that it is committed, or the cause against it
abbrev pub verdict : CommitRequest → PipelineState → Reported
verdict request p = told (cause p.splits (entries p) (newest request p)) (submitted p)

-- a commit stopped for want of memory: the request stands submitted, and so many of the first resolvers and logs have
-- handled it, a log only where every resolver has, and not every log
pub record IsHeldAt (request : CommitRequest) (old new : PipelineState) (resolvers logs : ℕ) : Type 0 where
  pub stands : new ≡ first_handled resolvers logs (submit request old)
  pub some_resolvers : resolvers ≤ length old.resolved
  pub some_logs : logs < length old.logged
  pub in_order : resolvers < length old.resolved → logs ≡ 0

-- a refused submission leaves all as it was; a commit whose outcome isn't known was submitted, and is handled by some
-- roles and not reported, and no server has moved; one whose servers are behind is reported as any other, and some
-- server lacks something that is reported
abbrev pub HeldError : HoldError → CommitRequest → ClusterState → ClusterState → Type 0
HeldError (Submit error) request old new =
    (new ≡ old) × ((error ≡ Memory) ⊎ (submit_refusal old.pipeline request.read_version ≡ Some error))
HeldError Unknown request old new =
    (submit_refusal old.pipeline request.read_version ≡ None)
    × ((resolvers logs : ℕ) × IsHeldAt request old.pipeline new.pipeline resolvers logs)
    × (new ≡ with_pipeline new.pipeline old)
HeldError (Behind reported) request old new =
    (submit_refusal old.pipeline request.read_version ≡ None)
    × (new.pipeline ≡ all_handled (submit request old.pipeline))
    × (reported ≡ verdict request new.pipeline)
    × ¬ IsReadable new
