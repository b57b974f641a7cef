-- How the cluster stands after some steps, and which transactions are committed there.
use Rattle.std.specs.Prelude.{◌+◌, ◌&&◌, Bool, true, false, if◌then◌else◌}
use Rattle.std.specs.Prelude.{nat_le, List, [], ◌∷◌, length, map, filter, take}
use Rattle.kv_core.specs.declared.change.CommitRequest.{CommitRequest}
use Rattle.cluster_core.specs.declared.answers.Config.{Config}
use Rattle.cluster_core.specs.declared.answers.Reported.{Reported}
use Rattle.cluster_core.specs.declared.answers.Reported.TheVariants.{Committed}
use Rattle.cluster_core.specs.Cluster.{ClusterState, pull, with_pipeline}
use Rattle.cluster_core.specs.Configuration.{first_cluster}
use Rattle.cluster_core.specs.Roles.{PipelineState, all_handled, append, outcome, report, resolve, submitted}
use Rattle.schedule.specs.declared.step.Step.{Step}
use Rattle.schedule.specs.declared.step.Step.TheVariants.{Commit, Resolve, Log, Pull, Report, Lost, Settle}
use Rattle.schedule.specs.declared.reply.Reply.{Reply}
use Rattle.schedule.specs.declared.reply.Reply.TheVariants as answers
use Rattle.schedule.specs.declared.transcript.CommitEntry.{CommitEntry}
use Rattle.schedule.specs.Past.{Past, Submission, accepted}

-- the pipeline with one more of these requests
abbrev pub with_next : List CommitRequest → PipelineState → PipelineState
with_next requests p = record p { requests = take (length p.requests + 1) requests }

-- the cluster where every role has handled all that is submitted
abbrev pub settled : ClusterState → ClusterState
settled c =
    record c { pipeline = all_handled c.pipeline; pulled = map (λ _. submitted c.pipeline) c.pulled }

-- the reply says that the transaction was submitted, that the step was done, that something was reported
abbrev pub is_submitted : Reply → Bool
is_submitted (answers.Submitted version) = true
is_submitted reply = false

abbrev pub is_done : Reply → Bool
is_done answers.Done = true
is_done reply = false

abbrev pub is_reported : Reply → Bool
is_reported (answers.Reported reports) = true
is_reported reply = false

-- the cluster after one more step: what its reply says was done. The requests are those of the whole schedule
abbrev pub cluster_stepped : List CommitRequest → Step → Reply → ClusterState → ClusterState
cluster_stepped requests (Commit client) reply c =
    if is_submitted reply then with_pipeline (with_next requests c.pipeline) c else c
cluster_stepped requests (Resolve r) reply c = if is_done reply then with_pipeline (resolve r c.pipeline) c else c
cluster_stepped requests (Log l) reply c = if is_done reply then with_pipeline (append l c.pipeline) c else c
cluster_stepped requests (Pull s) reply c = if is_done reply then pull s c else c
cluster_stepped requests Report reply c = if is_reported reply then with_pipeline (report c.pipeline) c else c
cluster_stepped requests Lost reply c = if is_reported reply then with_pipeline (report c.pipeline) c else c
cluster_stepped requests Settle reply c = settled c
cluster_stepped requests step reply c = c

-- the cluster after the steps so far, from this one on
abbrev pub cluster_from : ClusterState → List CommitRequest → Past → ClusterState
cluster_from first requests [] = first
cluster_from first requests (event ∷ past) =
    cluster_stepped requests event.0 event.1 (cluster_from first requests past)

-- Private: so it is from the start of a configuration on
abbrev pub cluster_after : Config → List CommitRequest → Past → ClusterState
cluster_after config requests past = cluster_from (first_cluster config) requests past

-- a report tells that its request is committed
abbrev pub is_told : Reported → Bool
is_told (Committed version) = true
is_told other = false

-- a submitted transaction is listed once its version is reported, where it is committed
abbrev pub is_listed : PipelineState → Submission → Bool
is_listed p one = nat_le one.version p.reported && is_told (outcome p one.version)

abbrev pub listed : PipelineState → List Submission → List Submission
listed p submissions = filter (is_listed p) submissions

-- a committed transaction
abbrev pub commit_entry : Submission → CommitEntry
commit_entry one =
    record {
      version = one.version;
      client = one.client;
      store = one.transaction.store;
      read_version = one.transaction.read_version;
      commands = accepted one.transaction.attempts;
    }

-- the transactions that are committed, of those that were reported, in version order
abbrev pub commits_of : PipelineState → List Submission → List CommitEntry
commits_of p submissions = map commit_entry (listed p submissions)
