-- What a schedule of many clients and of the database's roles replies, and what it leaves, by what the reply to a
-- command is.
use Rattle.std.specs.Prelude.{◌≡◌, ◌≤◌, ℕ, ◌+◌, ◌-◌, Bool, true, List, [], ◌∷◌, ◌++◌}
use Rattle.std.specs.Prelude.{Option, Some, None, if◌then◌else◌, ◌==◌, length, nat_lt, All}
use Rattle.std.specs.List.{find, range_with_len}
use Rattle.std.specs.Option.{option_map, option_map_or}
use Rattle.kv_core.specs.Map.{Map}
use Rattle.kv_core.specs.declared.change.CommitRequest.{CommitRequest}
use Rattle.cluster_core.specs.declared.answers.Reported.{Reported}
use Rattle.cluster_core.specs.declared.answers.Reported.TheVariants as reported
use Rattle.cluster_core.specs.declared.answers.SubmitError.{SubmitError}
use Rattle.cluster_core.specs.declared.answers.SubmitError.TheVariants as submitting
use Rattle.cluster_core.specs.Cluster.{ClusterState, database_at, may_pull}
use Rattle.cluster_core.specs.Roles.{PipelineState, may_append, may_report}
use Rattle.cluster_core.specs.Roles.{may_resolve, outcome, submit_refusal, submitted}
use Rattle.schedule.specs.declared.refusal.Refusal.TheVariants.{NoSuchClient, NoSuchStore, NoSuchRole, Busy}
use Rattle.schedule.specs.declared.refusal.Refusal.TheVariants.{NoPlan, NoTransaction, TooOld, VersionsExhausted}
use Rattle.schedule.specs.declared.step.Command.{Command}
use Rattle.schedule.specs.declared.step.Command.TheVariants as asks
use Rattle.planner.specs.Asked.{AskedPlan}
use Rattle.schedule.specs.declared.step.Step.{Step}
use Rattle.schedule.specs.declared.step.Step.TheVariants.{Begin, Perform, Execute, Commit, Abandon, Resolve}
use Rattle.schedule.specs.declared.step.Step.TheVariants.{Log, Pull, Report, Lost, Settle}
use Rattle.schedule.specs.declared.reply.Reply.{Reply}
use Rattle.schedule.specs.declared.reply.Reply.TheVariants.{Begun, Done, ReadOnly, Submitted, Nothing, Refused}
use Rattle.schedule.specs.declared.reply.Reply.TheVariants as answers
use Rattle.schedule.specs.declared.reply.Report as telling
use Rattle.schedule.specs.declared.reply.Report.TheVariants as tells
use Rattle.schedule.specs.declared.transcript.CommitEntry.{CommitEntry}
use Rattle.record_store.specs.Layout.{is_store_number}
use Rattle.record_store.specs.Store.{Serial}
use Rattle.schedule.specs.Serve.{effect}
use Rattle.schedule.specs.Past.{Past, Attempt, Open, Submission, accepted}
use Rattle.schedule.specs.Past.{is_accepted, is_changed, kept_plan, open_of, submitted_in}
use Rattle.schedule.specs.Holds.{HoldsAll, Stores}
use Rattle.schedule.specs.Commits.{committed_over}
use Rattle.schedule.specs.Standing.{cluster_from, commits_of, listed}

-- ---- replies

-- there is one reply for each step, and each is right after the steps and replies before it
abbrev pub EachReply : (Past → Step → Reply → Type 0) → Past → List Step → List Reply → Type 0
EachReply IsRight past [] [] = Unit {0}
EachReply IsRight past (step ∷ steps) (reply ∷ replies) =
    IsRight past step reply × EachReply IsRight ((step, reply) ∷ past) steps replies
EachReply IsRight past steps replies = ⊥

-- the past that steps and their replies make
abbrev pub past_of : Past → List Step → List Reply → Past
past_of past (step ∷ steps) (reply ∷ replies) = past_of ((step, reply) ∷ past) steps replies
past_of past steps replies = past

-- a step of a client that there isn't is refused: there are sixteen, from 0
abbrev pub OfClient : ℕ → Reply → Type 0 → Type 0
OfClient client reply IsRight =
    (nat_lt client 16 ≡ true → IsRight) × (nat_lt client 16 ≡ Bool.false → reply ≡ Refused NoSuchClient)

-- a transaction in a store that there isn't is refused
abbrev pub OfStore : ℕ → Reply → Type 0 → Type 0
OfStore number reply IsRight =
    (is_store_number number ≡ true → IsRight)
    × (is_store_number number ≡ Bool.false → reply ≡ Refused NoSuchStore)

-- a step of a client wants an open transaction
abbrev pub InTransaction : Option Open → (Open → Type 0) → Reply → Type 0
InTransaction None IsRight reply = reply ≡ Refused NoTransaction
InTransaction (Some open_now) IsRight reply = IsRight open_now

-- executing wants a plan that the client keeps
abbrev pub WithPlan : Option AskedPlan → (AskedPlan → Type 0) → Reply → Type 0
WithPlan None IsRight reply = reply ≡ Refused NoPlan
WithPlan (Some plan) IsRight reply = IsRight plan

-- the reply to `begin`: the last reported version, unless a transaction is open
abbrev pub begin_reply : ClusterState → Option Open → Reply
begin_reply c (Some open_now) = Refused Busy
begin_reply c None = Begun c.pipeline.reported

-- the reply to `commit`: there was nothing to submit, or no version was left, or the transaction read too long ago, or
-- the next version
abbrev pub submit_reply : PipelineState → Option SubmitError → Reply
submit_reply p (Some submitting.TooOld) = Refused TooOld
submit_reply p (Some other) = Refused VersionsExhausted
submit_reply p None = Submitted (submitted p + 1)

abbrev pub commit_reply : ClusterState → Open → Reply
commit_reply c open_now =
    if is_changed open_now.attempts then submit_reply c.pipeline (submit_refusal c.pipeline open_now.read_version)
    else ReadOnly

-- the reply to a step of a role: there isn't that role, or the step is done, or there was nothing to do
abbrev pub role_reply : ℕ → ℕ → Bool → Reply
role_reply roles role may = if nat_lt role roles then (if may then Done else Nothing) else Refused NoSuchRole

-- whose submission has this version
abbrev pub client_of : List Submission → ℕ → ℕ
client_of submissions version =
    option_map_or (λ (one : Submission). one.client) (find (λ (one : Submission). one.version == version) submissions) 0

-- what is told to a client of its submission
abbrev pub report_to : ℕ → Reported → List telling.Report
report_to client (reported.Committed version) = tells.Committed client version ∷ []
report_to client (reported.Conflict seen range) = tells.Conflict client seen range ∷ []
report_to client reported.NothingToDo = []

-- what is told of some versions, from one on
abbrev pub reports_of : PipelineState → List Submission → List ℕ → List telling.Report
reports_of p submissions [] = []
reports_of p submissions (version ∷ versions) =
    report_to (client_of submissions version) (outcome p version) ++ reports_of p submissions versions

-- the reply that reports are: where there are none, there was nothing to do
abbrev pub reports_reply : List telling.Report → Reply
reports_reply [] = Nothing
reports_reply (one ∷ others) = answers.Reported (one ∷ others)

-- the reply to `report` tells of the next version, the reply to `lost` doesn't, and the reply to `settle` tells of all
-- that weren't reported
abbrev pub report_reply : PipelineState → List Submission → Reply
report_reply p submissions =
    if may_report p then reports_reply (reports_of p submissions ((p.reported + 1) ∷ [])) else Nothing

abbrev pub lost_reply : PipelineState → List Submission → Reply
lost_reply p submissions =
    if may_report p then answers.Reported (tells.Unknown (client_of submissions (p.reported + 1)) ∷ []) else Nothing

abbrev pub settle_reply : PipelineState → List Submission → Reply
settle_reply p submissions =
    reports_reply (reports_of p submissions (range_with_len (p.reported + 1) (submitted p - p.reported)))

-- what the reply to a command is, by the cluster, the transactions committed so far, and the open transaction
abbrev pub CommandRelation : Type 1
CommandRelation = ClusterState → List CommitEntry → Open → Command → Reply → Type 0

-- the reply is right for a step, where the cluster and what was submitted stand so, and that to a command is as stated
abbrev pub IsReplyBy : CommandRelation → ClusterState → Past → Step → Reply → Type 0
IsReplyBy IsOfCommand c past (Begin client store) reply =
    OfClient client reply (OfStore store reply (reply ≡ begin_reply c (open_of client past)))
IsReplyBy IsOfCommand c past (Perform client command) reply =
    OfClient client reply (InTransaction (open_of client past)
    (λ open_now. IsOfCommand c (commits_of c.pipeline (submitted_in past)) open_now command reply) reply)
IsReplyBy IsOfCommand c past (Execute client) reply =
    OfClient client reply (InTransaction (open_of client past) (λ open_now. WithPlan (kept_plan client past)
    (λ plan. IsOfCommand c (commits_of c.pipeline (submitted_in past)) open_now (asks.Execute plan) reply) reply)
    reply)
IsReplyBy IsOfCommand c past (Commit client) reply =
    OfClient client reply (InTransaction (open_of client past) (λ open_now. reply ≡ commit_reply c open_now) reply)
IsReplyBy IsOfCommand c past (Abandon client) reply =
    OfClient client reply (InTransaction (open_of client past) (λ open_now. reply ≡ Done) reply)
IsReplyBy IsOfCommand c past (Resolve r) reply =
    reply ≡ role_reply (length c.pipeline.resolved) r (may_resolve c.pipeline r)
IsReplyBy IsOfCommand c past (Log l) reply = reply ≡ role_reply (length c.pipeline.logged) l (may_append c.pipeline l)
IsReplyBy IsOfCommand c past (Pull s) reply = reply ≡ role_reply (length c.pulled) s (may_pull c s)
IsReplyBy IsOfCommand c past Report reply = reply ≡ report_reply c.pipeline (submitted_in past)
IsReplyBy IsOfCommand c past Lost reply = reply ≡ lost_reply c.pipeline (submitted_in past)
IsReplyBy IsOfCommand c past Settle reply = reply ≡ settle_reply c.pipeline (submitted_in past)

-- REPLIES: each reply is right as the cluster, which was this at first, stands after the steps before it
abbrev pub HasReplies : CommandRelation → ClusterState → List CommitRequest → List Step → List Reply → Type 0
HasReplies IsOfCommand first requests steps replies =
    EachReply (λ past step reply. IsReplyBy IsOfCommand (cluster_from first requests past) past step reply) [] steps
    replies

-- the open transaction of a client, by its store, its read version and its accepted commands
abbrev pub OpenByCommands : Type 0
OpenByCommands = Option (ℕ × ℕ × List Command)

abbrev pub open_by_commands : ℕ → Past → OpenByCommands
open_by_commands client past =
    option_map (λ (open_now : Open). (open_now.store, open_now.read_version, accepted open_now.attempts))
    (open_of client past)

-- what a refused step leaves of an open transaction: all, but that a refused commit ends it
abbrev pub left_open : Step → ℕ → OpenByCommands → OpenByCommands
left_open (Commit who) client before = if who == client then None else before
left_open step client before = before

-- a refused step leaves all as it was
pub record IsLeft (first : ClusterState) (requests : List CommitRequest) (past : Past) (step : Step) (reply : Reply) :
    Type 0 where
  pub cluster : cluster_from first requests ((step, reply) ∷ past) ≡ cluster_from first requests past
  pub submissions : submitted_in ((step, reply) ∷ past) ≡ submitted_in past
  pub transactions :
      (client : ℕ) → open_by_commands client ((step, reply) ∷ past)
      ≡ left_open step client (open_by_commands client past)

-- REFUSALS: a step that is refused leaves all as it was
abbrev pub LeavesAll : ClusterState → List CommitRequest → Past → Step → Reply → Type 0
LeavesAll first requests past step (Refused refusal) = IsLeft first requests past step (Refused refusal)
LeavesAll first requests past step reply = Unit {0}

-- ---- what is left

-- a map holds of each store what is committed at a version, where these were there at first, and nothing else
abbrev pub HoldsOver : Stores → List CommitEntry → ℕ → Map → Type 0
HoldsOver before commits version m = HoldsAll m (λ number. committed_over before number commits version)

-- HOLDS: at each version from the start to the last reported one the database holds what is committed there
abbrev pub HoldsCommitted : Stores → ClusterState → List CommitEntry → Type 0
HoldsCommitted before c commits =
    (version : ℕ) → c.pipeline.start ≤ version → version ≤ c.pipeline.reported →
    HoldsOver before commits version (database_at c version)

-- what is there after an attempt at a command
abbrev pub attempted : Serial → Attempt → Serial
attempted serial attempt = if is_accepted attempt.reply then effect serial attempt.command else serial

-- SERIAL: each accepted command of a listed transaction has in its store just before the transaction's version, after
-- its earlier ones, a reply as stated that is the one it had
abbrev pub IsSerialBy : (Serial → Command → Reply → Type 0) → Serial → List Attempt → Type 0
IsSerialBy IsOfCommand serial [] = Unit {0}
IsSerialBy IsOfCommand serial (attempt ∷ attempts) =
    (is_accepted attempt.reply ≡ true → IsOfCommand serial attempt.command attempt.reply)
    × IsSerialBy IsOfCommand (attempted serial attempt) attempts

abbrev pub AreSerialBy :
    (Serial → Command → Reply → Type 0) → Stores → ClusterState → List CommitEntry → List Submission → Type 0
AreSerialBy IsOfCommand before c commits submissions =
    All (λ one. IsSerialBy IsOfCommand (committed_over before one.transaction.store commits (one.version - 1))
    one.transaction.attempts) (listed c.pipeline submissions)

-- REQUESTS: there is one for each submission, which is as stated
abbrev pub EachRequest : (Submission → CommitRequest → Type 0) → List Submission → List CommitRequest → Type 0
EachRequest IsRequest [] [] = Unit {0}
EachRequest IsRequest (one ∷ submissions) (request ∷ requests) =
    IsRequest one request × EachRequest IsRequest submissions requests
EachRequest IsRequest submissions requests = ⊥
