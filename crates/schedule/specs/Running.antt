-- What the database of a schedule has, by the steps and replies so far.
use Rattle.std.specs.Prelude.{◌≡◌, ◌≤◌, ◌<◌, ℕ, ◌+◌, ◌-◌, List, [], ◌∷◌, ◌++◌, Option, Some, None}
use Rattle.std.specs.Prelude.{if◌then◌else◌, All, drop, get_or, map, replicate, true, false, Bool}
use Rattle.kv_core.specs.Map.{Map}
use Rattle.kv_core.specs.declared.change.CommitRequest.{CommitRequest}
use Rattle.cluster_core.specs.declared.answers.Reported.TheVariants.{NothingToDo}
use Rattle.cluster_core.specs.declared.answers.Work.{Work}
use Rattle.cluster_core.specs.declared.answers.Work.TheVariants as works
use Rattle.cluster_core.specs.Cluster.{ClusterState, database_at, tier_of, with_pipeline}
use Rattle.cluster_core.specs.Roles.{may_report, outcome, report, submitted}
use Rattle.cluster_core.specs.Refusing.{MayRefuse}
use Rattle.schedule.specs.declared.step.Command.{Command}
use Rattle.schedule.specs.declared.step.Step.{Step}
use Rattle.schedule.specs.declared.step.Step.TheVariants.{Commit}
use Rattle.schedule.specs.declared.step.TheConstants.{CLIENTS}
use Rattle.schedule.specs.declared.reply.Reply.{Reply}
use Rattle.schedule.specs.declared.reply.Reply.TheVariants.{Done, Nothing, Refused, Submitted}
use Rattle.schedule.specs.declared.refusal.Refusal.TheVariants.{NoPlan}
use Rattle.schedule.specs.declared.reply.Report.{Report}
use Rattle.schedule.specs.declared.transcript.CommitEntry.{CommitEntry}
use Rattle.schedule.specs.declared.commit_log.Listed.{Listed}
use Rattle.schedule.specs.declared.database.Database.{Database}
use Rattle.schedule.specs.declared.database.OpenTransaction.{OpenTransaction}
use Rattle.schedule.specs.declared.database.Told.{Told}
use Rattle.schedule.specs.declared.database.Unreported.{Unreported}
use Rattle.schedule.specs.Past.{Past, Open, Submission, accepted, is_accepted, kept_plan, open_of, submitted_in}
use Rattle.planner.specs.Asked.{AskedPlan}
use Rattle.schedule.specs.Performed.{IsPerformed}
use Rattle.schedule.specs.Standing.{cluster_from, cluster_stepped, commits_of}
use Rattle.schedule.specs.Contract.{HasReplies, InTransaction, OfClient, client_of, commit_reply, past_of, report_to}
use Rattle.schedule.specs.Exact.{IsReplyHeld, IsReplyTo}
use Rattle.schedule.specs.Headline.{WasOpen}
use Rattle.schedule.specs.Known.{IsKnown, SeesSerial}
use Rattle.schedule.specs.Turns.{AreSubmitted, IsOpenTransaction}

-- what is kept of a submission until it is reported
abbrev pub kept : Submission → Unreported
kept one =
    record {
      client = one.client;
      store = one.transaction.store;
      read_version = one.transaction.read_version;
      commands = accepted one.transaction.attempts;
    }

-- the transaction is the open one in its store, and has its accepted commands; where a store is kept, it stands there
pub record IsOpen (maps : ℕ → Map) (reported : ℕ) (open_now : Open) (transaction : OpenTransaction) : Type 0 where
  pub store : transaction.store ≡ open_now.store
  pub done : IsOpenTransaction maps reported open_now transaction.transaction
  pub commands : transaction.commands ≡ accepted open_now.attempts
  pub known : IsKnown transaction.store maps transaction.opened transaction.transaction

-- a client's place has its open transaction, where there is one
abbrev pub IsPlace : (ℕ → Map) → ℕ → Option Open → Option OpenTransaction → Type 0
IsPlace maps reported None None = Unit {0}
IsPlace maps reported (Some open_now) (Some transaction) = IsOpen maps reported open_now transaction
IsPlace maps reported before place = ⊥

-- the places have the clients' open transactions
abbrev pub ArePlaces : (ℕ → Map) → ℕ → (ℕ → Option Open) → List (Option OpenTransaction) → Type 0
ArePlaces maps reported opens places =
    (client : ℕ) → client < CLIENTS → IsPlace maps reported (opens client) (get_or places client None)

-- beside a cluster there are kept what the clients have open, what isn't reported yet, and what is listed
pub record IsStandingAt (c : ClusterState) (opens : ℕ → Option Open) (submissions : List Submission)
    (transactions : List (Option OpenTransaction)) (waiting : List Unreported)
    (entries : List CommitEntry) : Type 0 where
  pub begun : c.pipeline.start ≤ c.pipeline.reported
  pub given : c.pipeline.reported ≤ submitted c.pipeline
  pub pulled : All (λ clock. clock ≤ submitted c.pipeline) c.pulled
  pub places : ArePlaces (database_at c) c.pipeline.reported opens transactions
  pub unreported : waiting ≡ map kept (drop (c.pipeline.reported - c.pipeline.start) submissions)
  pub commits : entries ≡ commits_of c.pipeline submissions
  pub submitted : AreSubmitted (database_at c) c.pipeline.reported c.pipeline.start submissions c.pipeline.requests

-- so it is with the database
abbrev pub IsStanding : (ℕ → Option Open) → List Submission → Database → Type 0
IsStanding opens submissions database =
    IsStandingAt database.cluster opens submissions database.transactions.items database.unreported.items
    database.commits

-- the database is what the steps and replies so far have made
abbrev pub StandsAfter : Past → Database → Type 0
StandsAfter past database = IsStanding (λ client. open_of client past) (submitted_in past) database

-- Private: the database at the start, where the cluster is this
pub record IsFirst (first : ClusterState) (database : Database) : Type 0 where
  pub cluster : database.cluster ≡ first
  pub places : database.transactions.items ≡ replicate CLIENTS None
  pub unreported : database.unreported.items ≡ []
  pub commits : database.commits ≡ []

-- Private: a step replied rightly, moved the cluster as its reply says, and left the database of the longer past
pub record Steps (past : Past) (step : Step) (reply : Reply) (old new : Database) : Type 0 where
  pub right : IsReplyTo old.cluster past step reply
  pub moved :
      (more : List CommitRequest) → cluster_stepped (new.cluster.pipeline.requests ++ more) step reply old.cluster
      ≡ new.cluster
  pub added : List CommitRequest
  pub grown : new.cluster.pipeline.requests ≡ old.cluster.pipeline.requests ++ added
  pub after : StandsAfter ((step, reply) ∷ past) new

-- Private: a step was done, whatever steps it had done before
abbrev pub IsStepped : Step → Reply → Database → Database → Type 0
IsStepped step reply old new = (past : Past) → StandsAfter past old → Steps past step reply old new

-- the clients' places have the plans that they keep
abbrev pub AreKept : Past → List (Option AskedPlan) → Type 0
AreKept past plans = (client : ℕ) → client < CLIENTS → get_or plans client None ≡ kept_plan client past

-- Private: so a step was done, where the clients kept these plans
abbrev pub IsSteppedWith : List (Option AskedPlan) → Step → Reply → Database → Database → Type 0
IsSteppedWith plans step reply old new =
    (past : Past) → StandsAfter past old → AreKept past plans → Steps past step reply old new

-- Private: a command was performed in an open transaction, in its store; it is kept where it is accepted, and a
-- store that is left open, where stores may stay open, stands there
pub record IsPerformedBy (c : ClusterState) (stays_open : Bool) (command : Command) (reply : Reply)
    (old new : OpenTransaction) : Type 0 where
  pub store : new.store ≡ old.store
  pub performed :
      IsPerformed old.store (database_at c) (λ range. MayRefuse (tier_of c) range old.transaction.read_version)
      command reply old.transaction new.transaction
  pub commands : new.commands ≡ old.commands ++ (if is_accepted reply then command ∷ [] else [])
  pub known :
      (stays_open ≡ true → SeesSerial old.store (database_at c) old.transaction) →
      IsKnown old.store (database_at c) new.opened new.transaction

-- Private: the reply to executing where no plan is kept, whatever stood before: there is no such client, or it has no
-- open transaction, or no plan
abbrev pub IsUnplanned : ℕ → Reply → Database → Type 0
IsUnplanned client reply database =
    (past : Past) → StandsAfter past database →
    OfClient client reply (InTransaction (open_of client past) (λ open_now. reply ≡ Refused NoPlan) reply)

-- Private: what was submitted, after a commit with this reply
abbrev pub submitted_by : ℕ → Open → Reply → List Submission → List Submission
submitted_by client ended (Submitted version) submissions =
    submissions ++ record { version = version; client = client; transaction = ended } ∷ []
submitted_by client ended reply submissions = submissions

-- Private: an ended transaction was submitted, or the reply says why it wasn't
pub record Submits (opens : ℕ → Option Open) (submissions : List Submission) (client : ℕ) (ended : Open) (reply : Reply)
    (old new : Database) : Type 0 where
  pub right : reply ≡ commit_reply old.cluster ended
  pub moved :
      (more : List CommitRequest) →
      cluster_stepped (new.cluster.pipeline.requests ++ more) (Commit client) reply old.cluster
      ≡ new.cluster
  pub added : List CommitRequest
  pub grown : new.cluster.pipeline.requests ≡ old.cluster.pipeline.requests ++ added
  pub after : IsStanding opens (submitted_by client ended reply submissions) new

-- Private: a submission was tried, whatever stood before
abbrev pub IsSubmit : ℕ → OpenTransaction → Reply → Database → Database → Type 0
IsSubmit client transaction reply old new =
    (opens : ℕ → Option Open) (submissions : List Submission) (ended : Open) → IsStanding opens submissions old →
    IsOpen (database_at old.cluster) old.cluster.pipeline.reported ended transaction →
    Submits opens submissions client ended reply old new

-- Private: the reply to a step of a role that there is
abbrev pub work_reply : Work → Reply
work_reply works.Done = Done
work_reply works.NothingToDo = Nothing

-- Private: the next version was reported: whose it was, and what is told of it
pub record IsTold (opens : ℕ → Option Open) (submissions : List Submission) (told : Told) (old new : Database) :
    Type 0 where
  pub may : may_report old.cluster.pipeline ≡ true
  pub client : told.client ≡ client_of submissions (old.cluster.pipeline.reported + 1)
  pub reported : told.reported ≡ outcome old.cluster.pipeline (old.cluster.pipeline.reported + 1)
  pub something : told.reported ≡ NothingToDo → ⊥
  pub cluster : new.cluster ≡ with_pipeline (report old.cluster.pipeline) old.cluster
  pub after : IsStanding opens submissions new

-- Private: there was no next version
pub record IsIdle (opens : ℕ → Option Open) (submissions : List Submission) (old new : Database) : Type 0 where
  pub may : may_report old.cluster.pipeline ≡ false
  pub cluster : new.cluster ≡ old.cluster
  pub after : IsStanding opens submissions new

-- Private: the next version was reported, where it might
abbrev pub IsReportedAs : (ℕ → Option Open) → List Submission → Option Told → Database → Database → Type 0
IsReportedAs opens submissions None old new = IsIdle opens submissions old new
IsReportedAs opens submissions (Some told) old new = IsTold opens submissions told old new

-- Private: so it was done, whatever stood before
abbrev pub IsReported : Option Told → Database → Database → Type 0
IsReported told old new =
    (opens : ℕ → Option Open) (submissions : List Submission) → IsStanding opens submissions old →
    IsReportedAs opens submissions told old new

-- Private: the next version was reported to its client
pub record Tells (opens : ℕ → Option Open) (submissions : List Submission) (before : List Report) (done : Bool)
    (after : List Report) (old new : Database) : Type 0 where
  pub may : done ≡ may_report old.cluster.pipeline
  pub something : done ≡ true → outcome old.cluster.pipeline (old.cluster.pipeline.reported + 1) ≡ NothingToDo → ⊥
  pub reports :
      after ≡ before ++ (if done then report_to (client_of submissions (old.cluster.pipeline.reported + 1))
      (outcome old.cluster.pipeline (old.cluster.pipeline.reported + 1)) else [])
  pub cluster : new.cluster ≡ (if done then with_pipeline (report old.cluster.pipeline) old.cluster else old.cluster)
  pub standing : IsStanding opens submissions new

-- Private: the same, whatever stood before
abbrev pub IsTelling : List Report → Bool → List Report → Database → Database → Type 0
IsTelling before done after old new =
    (opens : ℕ → Option Open) (submissions : List Submission) → IsStanding opens submissions old →
    Tells opens submissions before done after old new

-- Private: what is listed of a submission that is committed at a version
abbrev pub unreported_entry : ℕ → Unreported → CommitEntry
unreported_entry version next =
    record {
      version = version;
      client = next.client;
      store = next.store;
      read_version = next.read_version;
      commands = next.commands;
    }

-- Private: what is handed out of a listed transaction
abbrev pub listed_entry : Listed → CommitEntry
listed_entry one =
    record {
      version = one.version;
      client = one.client;
      store = one.store;
      read_version = one.read_version;
      commands = one.commands;
    }

-- a transaction is what its attempts made of a fresh one, by the maps that the cluster has now
pub record IsStillOpen (c : ClusterState) (transaction : Open) : Type 0 where
  pub request : CommitRequest
  pub is : IsOpenTransaction (database_at c) c.pipeline.reported transaction request

-- the steps were done one after another from where the cluster was this: each reply is right however many requests
-- come later, and the cluster is the one after the steps; and each transaction that there was is what its attempts made
pub record HasRun (first : ClusterState) (steps : List Step) (replies : List Reply) (database : Database) :
    Type 0 where
  pub right :
      (more : List CommitRequest) →
      HasReplies IsReplyHeld first (database.cluster.pipeline.requests ++ more) steps replies
  pub cluster :
      (more : List CommitRequest) → cluster_from first (database.cluster.pipeline.requests ++ more)
      (past_of [] steps replies) ≡ database.cluster
  pub stands : StandsAfter (past_of [] steps replies) database
  pub opened :
      (transaction : Open) → WasOpen (past_of [] steps replies) transaction →
      IsStillOpen database.cluster transaction
