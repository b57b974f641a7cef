-- What a run of a schedule is to the last byte: which ranges are read, in which order, which mutations are written,
-- which limit is met, and which plan is given.
use Rattle.std.specs.Prelude.{◌≡◌, ◌⊎◌, ℕ, List, [], ◌∷◌, ◌++◌, if◌then◌else◌}
use Rattle.kv_core.specs.Map.{Map, after_all}
use Rattle.kv_core.specs.Range.{KeyRange}
use Rattle.kv_core.specs.declared.change.CommitRequest.{CommitRequest}
use Rattle.kv_core.specs.declared.change.Mutation.{Mutation}
use Rattle.cluster_core.specs.declared.answers.Config.{Config}
use Rattle.cluster_core.specs.Cluster.{ClusterState, database_at, tier_of}
use Rattle.cluster_core.specs.Configuration.{first_cluster}
use Rattle.cluster_core.specs.Refusing.{MayRefuse}
use Rattle.txn.specs.Runs.{with_ranges}
use Rattle.record_store.specs.Store.{Serial}
use Rattle.schedule.specs.declared.step.Command.{Command}
use Rattle.schedule.specs.declared.step.Step.{Step}
use Rattle.schedule.specs.declared.reply.Reply.{Reply}
use Rattle.schedule.specs.declared.transcript.CommitEntry.{CommitEntry}
use Rattle.schedule.specs.declared.transcript.Transcript.{Transcript}
use Rattle.schedule.specs.Serve.{IsReply, effect}
use Rattle.schedule.specs.Past.{Past, Attempt, Open, Submission, accepted, is_accepted, submitted_in}
use Rattle.schedule.specs.Reach.{added_by, opened_in, reach, writes}
use Rattle.schedule.specs.Performed.{HasAdded, IsReadRefusal, IsServed}
use Rattle.schedule.specs.Holds.{HoldsAll, Stores, no_stores}
use Rattle.schedule.specs.Commits.{committed_over, view_over}
use Rattle.schedule.specs.Contract.{AreSerialBy, EachRequest, HasReplies, IsReplyBy, IsSerialBy, attempted, past_of}

-- what commands write one after another, in a transaction in the store with a number that sees this map at first
abbrev pub commands_written : ℕ → Map → Serial → List Command → List Mutation
commands_written number m serial [] = []
commands_written number m serial (command ∷ commands) =
    let written = writes number m serial command in
    written ++ commands_written number (after_all written m) (effect serial command) commands

-- the reply to a command is the serial store's for what the transaction sees, where these stores were there at first,
-- with the planner's plan, or the very limit that its writes meet in this transaction; or servers refuse one of the
-- ranges that it asks for
abbrev pub IsExactReply : Stores → ClusterState → List CommitEntry → Open → Command → Reply → Type 0
IsExactReply before c commits open_now command reply =
    let number = open_now.store in
    let seen = view_over before commits open_now in
    let at_read = database_at c open_now.read_version in
    let written =
    commands_written number at_read (committed_over before number commits open_now.read_version)
    (accepted open_now.attempts) in
    IsServed number (after_all written at_read) written seen command reply
    ⊎ IsReadRefusal (λ range. MayRefuse (tier_of c) range open_now.read_version)
    (reach number (opened_in number seen) command (after_all written at_read)) reply

-- so it is for all stores that the base of the cluster holds
abbrev pub IsReplyHeld : ClusterState → List CommitEntry → Open → Command → Reply → Type 0
IsReplyHeld c commits open_now command reply =
    (before : Stores) → HoldsAll c.base before → IsExactReply before c commits open_now command reply

-- Private: the reply to a step, with the exact one to a command
abbrev pub IsReplyTo : ClusterState → Past → Step → Reply → Type 0
IsReplyTo c past step reply = IsReplyBy IsReplyHeld c past step reply

-- REPLIES: each reply, with the exact one to each command
abbrev pub HasExactReplies : Stores → ClusterState → List CommitRequest → List Step → List Reply → Type 0
HasExactReplies before first requests steps replies = HasReplies (IsExactReply before) first requests steps replies

-- SERIAL: so it is with each accepted command of a listed transaction just before the transaction's version
abbrev pub IsSerialAt : Serial → List Attempt → Type 0
IsSerialAt serial attempts = IsSerialBy IsReply serial attempts

abbrev pub IsSerial : Stores → ClusterState → List CommitEntry → List Submission → Type 0
IsSerial before c commits submissions = AreSerialBy IsReply before c commits submissions

-- what an attempt at a command writes, in a transaction that sees this map
abbrev pub attempt_writes : ℕ → Map → Serial → Attempt → List Mutation
attempt_writes number m serial attempt =
    if is_accepted attempt.reply then writes number m serial attempt.command else []

-- what attempts add to the ranges read, one after another, in a transaction that sees this map at first
abbrev pub HaveAdded : ℕ → Map → Serial → List Attempt → List KeyRange → Type 0
HaveAdded number m serial [] added = added ≡ []
HaveAdded number m serial (attempt ∷ attempts) added =
    (first : List KeyRange) × (rest : List KeyRange) × (added ≡ first ++ rest)
    × HasAdded attempt.reply (added_by number (opened_in number serial) attempt.command m) first
    × HaveAdded number (after_all (attempt_writes number m serial attempt) m) (attempted serial attempt) attempts rest

-- the ranges read are those that attempts added, in their order, each once
pub record AreReads (number : ℕ) (m : Map) (serial : Serial) (attempts : List Attempt) (reads : List KeyRange) :
    Type 0 where
  pub added : List KeyRange
  pub each : HaveAdded number m serial attempts added
  pub are : reads ≡ with_ranges added []

-- REQUESTS: a submission's request has its read version; its reads are what the commands read of the map that the
-- transaction saw, in order, and it writes just what the accepted commands write
pub record IsExactRequest (maps : ℕ → Map) (before : Stores) (commits : List CommitEntry) (one : Submission)
    (request : CommitRequest) : Type 0 where
  pub read_version : request.read_version ≡ one.transaction.read_version
  pub reads :
      AreReads one.transaction.store (maps one.transaction.read_version)
      (committed_over before one.transaction.store commits one.transaction.read_version) one.transaction.attempts
      request.reads
  pub mutations :
      request.mutations
      ≡ commands_written one.transaction.store (maps one.transaction.read_version)
      (committed_over before one.transaction.store commits one.transaction.read_version)
      (accepted one.transaction.attempts)

-- EXACT: what a run of a schedule is to the last byte, where the cluster was this at first and these stores were there
pub record IsExactOver (first : ClusterState) (before : Stores) (steps : List Step) (run : Transcript) : Type 0 where
  -- each reply is exact as the cluster stands after the steps before it
  pub replies : HasExactReplies before first run.cluster.pipeline.requests steps run.replies
  -- each listed transaction has the same replies just before its version, with the same plans
  pub serial : IsSerial before run.cluster run.commits (submitted_in (past_of [] steps run.replies))
  -- each request's reads are what its commands read, in order, and its writes just those of the accepted ones
  pub requests :
      EachRequest (IsExactRequest (database_at run.cluster) before run.commits)
      (submitted_in (past_of [] steps run.replies)) run.cluster.pipeline.requests

-- EXACT: so it is from the start of a configuration on, where there was no store
abbrev pub IsExactRun : Config → List Step → Transcript → Type 0
IsExactRun config steps run = IsExactOver (first_cluster config) no_stores steps run
