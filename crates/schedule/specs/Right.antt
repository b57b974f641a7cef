-- What a run of a schedule is, for who asks what was replied and what is there: no range, no order of reads, no plan.
use Rattle.std.specs.Prelude.{◌≡◌, ◌⊎◌, ◌<◌, ℕ, true, false, List, [], ◌∷◌, IsTrue, length}
use Rattle.kv_core.specs.Bytes.{end_of_keys, key_lt}
use Rattle.kv_core.specs.Change.{write_ranges}
use Rattle.kv_core.specs.Range.{covers}
use Rattle.kv_core.specs.declared.change.CommitRequest.{CommitRequest}
use Rattle.kv_core.specs.declared.change.WriteError.{WriteError}
use Rattle.kv_core.specs.declared.change.WriteError.TheVariants as limits
use Rattle.cluster_core.specs.declared.answers.Config.{Config}
use Rattle.cluster_core.specs.Cluster.{ClusterState, tier_of}
use Rattle.cluster_core.specs.Configuration.{first_cluster}
use Rattle.cluster_core.specs.History.{IsLegalOver}
use Rattle.cluster_core.specs.Roles.{history}
use Rattle.cluster_core.specs.Refusing.{MayRefuse}
use Rattle.record_store.specs.Store.{Serial}
use Rattle.schedule.specs.declared.step.Command.{Command}
use Rattle.schedule.specs.declared.step.Step.{Step}
use Rattle.schedule.specs.declared.reply.Reply.{Reply}
use Rattle.schedule.specs.declared.transcript.CommitEntry.{CommitEntry}
use Rattle.schedule.specs.declared.transcript.Transcript.{Transcript}
use Rattle.schedule.specs.Serve.{IsMeant}
use Rattle.schedule.specs.Past.{Attempt, Open, Submission, is_accepted, submitted_in}
use Rattle.schedule.specs.Performed.{IsLimit, IsRefusalAmong}
use Rattle.schedule.specs.Holds.{Stores, no_stores}
use Rattle.schedule.specs.Commits.{committed_over, view_over}
use Rattle.schedule.specs.Isolated.{IsIsolated}
use Rattle.schedule.specs.Standing.{cluster_from, commits_of}
use Rattle.schedule.specs.Keys.{MayReadKey, MayWriteKey}
use Rattle.schedule.specs.Contract.{AreSerialBy, EachReply, EachRequest, HasReplies, HoldsCommitted, LeavesAll}
use Rattle.schedule.specs.Contract.{attempted, past_of}

-- a key meets the limit; how large a value and a transaction are no key tells
abbrev pub MeetsLimit : WriteError → List ℕ → Type 0
MeetsLimit limits.KeyOutside key = key_lt key end_of_keys ≡ false
MeetsLimit limits.KeyTooLarge key = 10_000 < length key
MeetsLimit error key = Unit {0}

-- the reply is a write limit that a key meets which the command may write
pub record IsOverLimit (number : ℕ) (serial : Serial) (command : Command) (reply : Reply) : Type 0 where
  pub limit : WriteError
  pub told : IsLimit limit reply
  pub key : List ℕ
  pub written : MayWriteKey number serial command key
  pub met : MeetsLimit limit key

-- the reply to a command is the serial store's for what the transaction sees of its store, where these stores were
-- there at first; or servers refuse to read keys that it may read; or its own writes can meet that limit
abbrev pub IsRightReply : Stores → ClusterState → List CommitEntry → Open → Command → Reply → Type 0
IsRightReply before c commits open_now command reply =
    let seen = view_over before commits open_now in
    IsMeant seen command reply
    ⊎ (IsRefusalAmong (λ range. MayRefuse (tier_of c) range open_now.read_version)
    (MayReadKey open_now.store seen command) reply
    ⊎ IsOverLimit open_now.store seen command reply)

-- a key that one of the attempts may read, refused ones among them; and one that an accepted one may write
abbrev pub MayHaveRead : ℕ → Serial → List Attempt → List ℕ → Type 0
MayHaveRead number serial [] key = ⊥
MayHaveRead number serial (attempt ∷ attempts) key =
    MayReadKey number serial attempt.command key ⊎ MayHaveRead number (attempted serial attempt) attempts key

abbrev pub MayHaveWritten : ℕ → Serial → List Attempt → List ℕ → Type 0
MayHaveWritten number serial [] key = ⊥
MayHaveWritten number serial (attempt ∷ attempts) key =
    ((is_accepted attempt.reply ≡ true) × MayWriteKey number serial attempt.command key)
    ⊎ MayHaveWritten number (attempted serial attempt) attempts key

-- a submission's request has its read version, and reads and writes within the reach of its commands in its store
pub record IsRightRequest (before : Stores) (commits : List CommitEntry) (one : Submission)
    (request : CommitRequest) : Type 0 where
  pub read_version : request.read_version ≡ one.transaction.read_version
  pub reads :
      (key : List ℕ) → IsTrue (covers request.reads key) →
      MayHaveRead one.transaction.store
      (committed_over before one.transaction.store commits one.transaction.read_version) one.transaction.attempts key
  pub writes :
      (key : List ℕ) → IsTrue (covers (write_ranges request.mutations) key) →
      MayHaveWritten one.transaction.store
      (committed_over before one.transaction.store commits one.transaction.read_version) one.transaction.attempts key

-- RIGHT: what a run of a schedule is, where the cluster was this at first and these stores were there
pub record IsRightOver (first : ClusterState) (before : Stores) (steps : List Step) (run : Transcript) : Type 0 where
  -- there is one reply for each step, and each is right as the cluster stands after the steps before it
  pub replies : HasReplies (IsRightReply before) first run.cluster.pipeline.requests steps run.replies
  -- the cluster that is left is the one that the steps and their replies define
  pub cluster : run.cluster ≡ cluster_from first run.cluster.pipeline.requests (past_of [] steps run.replies)
  -- the transactions listed are those that were reported and committed, with their accepted commands
  pub commits : run.commits ≡ commits_of run.cluster.pipeline (submitted_in (past_of [] steps run.replies))
  -- the committed requests are a legal history: each would have read the same just before its own version
  pub legal : IsLegalOver first.base (history run.cluster.pipeline)
  -- at each version up to the last reported one the database holds just the stores that the committed transactions make
  pub holds : HoldsCommitted before run.cluster run.commits
  -- version order is a serial order: each listed transaction has the same replies just before its version in its store
  pub serial : AreSerialBy IsMeant before run.cluster run.commits (submitted_in (past_of [] steps run.replies))
  -- there is one request for each submission, which reads and writes within the reach of its commands
  pub requests :
      EachRequest (IsRightRequest before run.commits) (submitted_in (past_of [] steps run.replies))
      run.cluster.pipeline.requests
  -- whether a request is committed depends on the requests of its own store alone
  pub isolated : IsIsolated run.cluster.pipeline (submitted_in (past_of [] steps run.replies))
  -- a refused step leaves all as it was, which follows from the first two
  pub refusals : EachReply (LeavesAll first run.cluster.pipeline.requests) [] steps run.replies

-- RIGHT: so it is from the start of a configuration on, where there was no store
abbrev pub IsRightRun : Config → List Step → Transcript → Type 0
IsRightRun config steps run = IsRightOver (first_cluster config) no_stores steps run
