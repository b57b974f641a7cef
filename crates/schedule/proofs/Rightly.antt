-- What is right of a run, from what is exact of it.
use Rattle.std.proofs.Common.{◌≡◌, ◌⊎◌, inl, inr, ℕ, ◌-◌, Bool, true, false, cond, ◌||◌, List, [], ◌∷◌, ◌++◌, map, Option, Some, None, refl, sym, ap, subst, ◌∙◌}
use Rattle.std.specs.Prelude.{IsTrue, filter}
use Rattle.std.specs.List.{AllByRecursion, list_any}
use Rattle.std.proofs.lemmas.Bool.{or_left, or_right}
use Rattle.std.proofs.lemmas.List.{map-append}
use Rattle.std.proofs.lemmas.List.Elements.{All-from_recursion, recursion_from_All}
use Rattle.std.proofs.lemmas.List.Folds.{list_any-append}
use Rattle.kv_core.specs.Change.{write_range, write_ranges}
use Rattle.kv_core.specs.Limits.{write_all_refusal}
use Rattle.kv_core.specs.Map.{Map, after_all}
use Rattle.kv_core.specs.Range.{KeyRange, contains, covers, is_same_range, with_range}
use Rattle.kv_core.specs.declared.change.CommitRequest.{CommitRequest}
use Rattle.kv_core.specs.declared.change.Mutation.{Mutation}
use Rattle.kv_core.specs.declared.change.WriteError.{WriteError}
use Rattle.kv_core.specs.declared.snapshot.ReadError.{ReadError}
use Rattle.cluster_core.specs.Cluster.{ClusterState, database_at, pull, tier_of, with_pipeline}
use Rattle.cluster_core.specs.Roles.{append, report, resolve}
use Rattle.cluster_core.specs.Refusing.{MayRefuse}
use Rattle.txn.specs.Runs.{with_ranges}
use Rattle.metadata.specs.declared.index.State.{State}
use Rattle.metadata.specs.Schema.{Schema}
use Rattle.query.specs.declared.error.QueryError.{QueryError}
use Rattle.query.specs.Checked.{query_refusal}
use Rattle.query.specs.Query.{Query}
use Rattle.planner.specs.Asked.{AskedPlan}
use Rattle.planner.specs.Right.{indexes_of, is_served}
use Rattle.planner.specs.Rules.{MayBeUsed}
use Rattle.planner.specs.View.{plan_of}
use Rattle.planner.proofs.Lists.{each_all}
use Rattle.planner.proofs.Theorem.{planned_usable}
use Rattle.record_store.specs.Store.{Serial}
use Rattle.schedule.specs.declared.step.Command.{Command}
use Rattle.schedule.specs.declared.step.Command.TheVariants as asks
use Rattle.schedule.specs.declared.step.Step.{Step}
use Rattle.schedule.specs.declared.step.Step.TheVariants.{Begin, Perform, Execute, Commit, Abandon, Resolve, Log, Pull, Report, Lost, Settle}
use Rattle.schedule.specs.declared.reply.Reply.{Reply}
use Rattle.schedule.specs.declared.transcript.CommitEntry.{CommitEntry}
use Rattle.schedule.specs.Query.{Unrefused, states_of}
use Rattle.schedule.specs.Planning.{IsPlanReplyWith, IsPlanned, IsSomePlan}
use Rattle.schedule.specs.Serve as serve
use Rattle.schedule.specs.Serve.{IsMeant, IsReply, IsReplyWith, effect, serial_line}
use Rattle.schedule.specs.Past.{Attempt, Open, Past, Submission, accepted, is_accepted, kept_plan, open_of, submitted_in}
use Rattle.schedule.specs.Performed.{IsLimited, IsRefusalAmong, IsServed}
use Rattle.schedule.specs.Holds.{HoldsAll, Stores}
use Rattle.schedule.specs.Commits.{committed_over, view_over}
use Rattle.schedule.specs.Standing.{cluster_from, cluster_stepped, commits_of, is_done, is_reported, is_submitted, listed, with_next}
use Rattle.schedule.specs.Keys.{MayReadKey, MayWriteKey}
use Rattle.schedule.specs.Reach.{added_by, opened_in, reach, writes}
use Rattle.schedule.specs.Contract.{AreSerialBy, CommandRelation, EachReply, EachRequest, HasReplies, InTransaction, IsReplyBy, IsSerialBy, WithPlan, attempted}
use Rattle.schedule.specs.Exact.{HasExactReplies, HaveAdded, IsExactReply, IsExactRequest, IsReplyHeld, IsSerial, attempt_writes, commands_written}
use Rattle.schedule.specs.Right.{IsOverLimit, IsRightReply, IsRightRequest, MayHaveRead, MayHaveWritten}
use Rattle.schedule.proofs.Reached.{added_begin}
use Rattle.schedule.proofs.ReachReads.{reach_added, reach_reads}
use Rattle.schedule.proofs.ReachWrites.{reach_writes}
use Rattle.schedule.proofs.Written.{limit_met, or_cases, writes_such}

-- ---- a reply to a command

-- the planner's plan is a plan for the query
planned_meant : (schema : Schema) (states : List (ℕ × State)) (query : Query) (answer : Reply) → IsPlanned schema states query answer → IsSomePlan schema states query answer
planned_meant schema states query answer is = record {
  plan = is.plan;
  shown = is.shown;
  asked = is.asked;
  typed = is.typed;
  uses =
      each_all (MayBeUsed schema states is.plan.definition) (indexes_of (plan_of is.plan).root)
      (planned_usable schema states is.plan.definition query (plan_of is.plan).root is.is);
}

plan_meant : (schema : Schema) (states : List (ℕ × State)) (query : Query) (answer : Reply) → IsPlanReplyWith IsPlanned schema states query answer → IsPlanReplyWith IsSomePlan schema states query answer
plan_meant schema states query answer is = by_refusal (query_refusal schema query) (is_served schema states query) is
  where
    by_refusal : (why : Option QueryError) (served : Bool) → Unrefused why served (IsPlanned schema states query) answer → Unrefused why served (IsSomePlan schema states query) answer
    by_refusal (Some error) served says = says
    by_refusal None false says = says
    by_refusal None true says = planned_meant schema states query answer says

line_meant : (line : serve.Line) (answer : Reply) → IsReplyWith IsPlanned line answer → IsReplyWith IsSomePlan line answer
line_meant (serve.Refuses refusal) answer is = is
line_meant (serve.Replies told after) answer is = is
line_meant (serve.Queries store query) answer is = is
line_meant (serve.Plans store query) answer is = plan_meant store.schema (states_of store) query answer is
line_meant (serve.Executes store plan) answer is = is

meant : (serial : Serial) (command : Command) (answer : Reply) → IsReply serial command answer → IsMeant serial command answer
meant serial command answer is = line_meant (serial_line serial command) answer is

-- a refused read of such keys is one of others among which they are
refusal_among : (refuses : KeyRange → ReadError → Type 0) (Is Wide : List ℕ → Type 0) (answer : Reply) → ((key : List ℕ) → Is key → Wide key) → IsRefusalAmong refuses Is answer → IsRefusalAmong refuses Wide answer
refusal_among refuses Is Wide answer so is = record {
  error = is.error;
  told = is.told;
  refused = record { range = is.refused.range; inside = λ key inside. so key (is.refused.inside key inside); refused = is.refused.refused };
}

served_right : (number : ℕ) (m : Map) (before : List Mutation) (seen : Serial) (command : Command) (answer : Reply) → IsServed number m before seen command answer → IsMeant seen command answer ⊎ IsOverLimit number seen command answer
served_right number m before seen command answer is = by_limit (write_all_refusal before (writes number m seen command)) refl is
  where
    by_limit : (limit : Option WriteError) → write_all_refusal before (writes number m seen command) ≡ limit → IsLimited limit seen command answer → IsMeant seen command answer ⊎ IsOverLimit number seen command answer
    by_limit None is_limit says = inl (meant seen command answer says)
    by_limit (Some error) is_limit says =
        let met = limit_met (MayWriteKey number seen command) before (writes number m seen command) error (reach_writes number m seen command) is_limit in
        inr (record { limit = error; told = says; key = met.0; written = met.1; met = met.2 })

reply_right : (at_first : Stores) (c : ClusterState) (commits : List CommitEntry) (open_now : Open) (command : Command) (answer : Reply) → IsExactReply at_first c commits open_now command answer → IsRightReply at_first c commits open_now command answer
reply_right at_first c commits open_now command answer is = elim is [
  | inl served ↦ elim (served_right open_now.store (after_all before base) before seen command answer served) [
    | inl says ↦ inl says
    | inr limit ↦ inr (inr limit)
  ]
  | inr refused ↦ inr (inl (refusal_among (λ range. MayRefuse (tier_of c) range open_now.read_version) (λ key. IsTrue (covers (reach open_now.store (opened_in open_now.store seen) command (after_all before base)) key)) (MayReadKey open_now.store seen command) answer
      (reach_reads open_now.store seen command (after_all before base)) refused))
]
  where
    seen : Serial
    seen = view_over at_first commits open_now

    base : Map
    base = database_at c open_now.read_version

    before : List Mutation
    before = commands_written open_now.store base (committed_over at_first open_now.store commits open_now.read_version) (accepted open_now.attempts)

-- ---- replies to steps

in_transaction : (o : Option Open) (reply : Reply) (A B : Open → Type 0) → ((open_now : Open) → A open_now → B open_now) → InTransaction o A reply → InTransaction o B reply
in_transaction None reply A B so is = is
in_transaction (Some open_now) reply A B so is = so open_now is

with_plan : (o : Option AskedPlan) (reply : Reply) (A B : AskedPlan → Type 0) → ((plan : AskedPlan) → A plan → B plan) → WithPlan o A reply → WithPlan o B reply
with_plan None reply A B so is = is
with_plan (Some plan) reply A B so is = so plan is

abbrev CommitsThen : ClusterState → Past → List CommitEntry
CommitsThen c past = commits_of c.pipeline (submitted_in past)

-- a reply that is right by one relation on commands is right by another one that follows there
step_by : (A B : CommandRelation) (c : ClusterState) (past : Past) (step : Step) (reply : Reply) →
    ((open_now : Open) (command : Command) → A c (CommitsThen c past) open_now command reply → B c (CommitsThen c past) open_now command reply) → IsReplyBy A c past step reply → IsReplyBy B c past step reply
step_by A B c past (Begin client store) reply so is = is
step_by A B c past (Perform client command) reply so is = (
  λ below. in_transaction (open_of client past) reply (λ open_now. A c (CommitsThen c past) open_now command reply) (λ open_now. B c (CommitsThen c past) open_now command reply)
      (λ open_now. so open_now command) (is.0 below),
  is.1,
)
step_by A B c past (Execute client) reply so is = (
  λ below. in_transaction (open_of client past) reply
      (λ open_now. WithPlan (kept_plan client past) (λ plan. A c (CommitsThen c past) open_now (asks.Execute plan) reply) reply)
      (λ open_now. WithPlan (kept_plan client past) (λ plan. B c (CommitsThen c past) open_now (asks.Execute plan) reply) reply)
      (λ open_now. with_plan (kept_plan client past) reply (λ plan. A c (CommitsThen c past) open_now (asks.Execute plan) reply)
      (λ plan. B c (CommitsThen c past) open_now (asks.Execute plan) reply)
      (λ plan. so open_now (asks.Execute plan))) (is.0 below),
  is.1,
)
step_by A B c past (Commit client) reply so is = is
step_by A B c past (Abandon client) reply so is = is
step_by A B c past (Resolve r) reply so is = is
step_by A B c past (Log l) reply so is = is
step_by A B c past (Pull s) reply so is = is
step_by A B c past Report reply so is = is
step_by A B c past Lost reply so is = is
step_by A B c past Settle reply so is = is

replies_by : (A B : CommandRelation) (first : ClusterState) (requests : List CommitRequest) →
    ((past : Past) (open_now : Open) (command : Command) (reply : Reply) → let c = cluster_from first requests past in A c (CommitsThen c past) open_now command reply → B c (CommitsThen c past) open_now command reply) →
    (past : Past) (steps : List Step) (replies : List Reply) →
    EachReply (λ past step reply. IsReplyBy A (cluster_from first requests past) past step reply) past steps replies →
    EachReply (λ past step reply. IsReplyBy B (cluster_from first requests past) past step reply) past steps replies
replies_by A B first requests so past [] [] each = tt
replies_by A B first requests so past [] (reply ∷ replies) each = absurd each
replies_by A B first requests so past (step ∷ steps) [] each = absurd each
replies_by A B first requests so past (step ∷ steps) (reply ∷ replies) each =
    (step_by A B (cluster_from first requests past) past step reply (λ open_now command. so past open_now command reply) each.0, replies_by A B first requests so ((step, reply) ∷ past) steps replies each.1)

pub replies_right : (at_first : Stores) (first : ClusterState) (requests : List CommitRequest) (steps : List Step) (replies : List Reply) → HasExactReplies at_first first requests steps replies → HasReplies (IsRightReply at_first) first requests steps replies
replies_right at_first first requests steps replies each =
    replies_by (IsExactReply at_first) (IsRightReply at_first) first requests (λ past open_now command reply. reply_right at_first (cluster_from first requests past) (CommitsThen (cluster_from first requests past) past) open_now command reply) [] steps replies each

-- ---- the base

chosen_base : (b : Bool) (c d : ClusterState) → d.base ≡ c.base → (cond b d c).base ≡ c.base
chosen_base true c d same = same
chosen_base false c d same = refl

-- no step changes the base
pub stepped_base : (requests : List CommitRequest) (step : Step) (reply : Reply) (c : ClusterState) → (cluster_stepped requests step reply c).base ≡ c.base
stepped_base requests (Begin client store) reply c = refl
stepped_base requests (Perform client command) reply c = refl
stepped_base requests (Execute client) reply c = refl
stepped_base requests (Commit client) reply c = chosen_base (is_submitted reply) c (with_pipeline (with_next requests c.pipeline) c) refl
stepped_base requests (Abandon client) reply c = refl
stepped_base requests (Resolve r) reply c = chosen_base (is_done reply) c (with_pipeline (resolve r c.pipeline) c) refl
stepped_base requests (Log l) reply c = chosen_base (is_done reply) c (with_pipeline (append l c.pipeline) c) refl
stepped_base requests (Pull s) reply c = chosen_base (is_done reply) c (pull s c) refl
stepped_base requests Report reply c = chosen_base (is_reported reply) c (with_pipeline (report c.pipeline) c) refl
stepped_base requests Lost reply c = chosen_base (is_reported reply) c (with_pipeline (report c.pipeline) c) refl
stepped_base requests Settle reply c = refl

pub cluster_base : (first : ClusterState) (requests : List CommitRequest) (past : Past) → (cluster_from first requests past).base ≡ first.base
cluster_base first requests [] = refl
cluster_base first requests (event ∷ past) = stepped_base requests event.0 event.1 (cluster_from first requests past) ∙ cluster_base first requests past

-- replies that are exact for all stores that the base holds are so for these
pub replies_held : (at_first : Stores) (first : ClusterState) (requests : List CommitRequest) (steps : List Step) (replies : List Reply) → HoldsAll first.base at_first → HasReplies IsReplyHeld first requests steps replies →
    HasExactReplies at_first first requests steps replies
replies_held at_first first requests steps replies holds each =
    replies_by IsReplyHeld (IsExactReply at_first) first requests (λ past open_now command reply is. is at_first (subst (λ m. HoldsAll m at_first) (sym (cluster_base first requests past)) holds)) [] steps replies each

-- ---- version order

serial_meant : (serial : Serial) (attempts : List Attempt) → IsSerialBy IsReply serial attempts → IsSerialBy IsMeant serial attempts
serial_meant serial [] is = tt
serial_meant serial (attempt ∷ attempts) is = (λ yes_accepted. meant serial attempt.command attempt.reply (is.0 yes_accepted), serial_meant (attempted serial attempt) attempts is.1)

pub serial_right : (at_first : Stores) (c : ClusterState) (commits : List CommitEntry) (submissions : List Submission) → IsSerial at_first c commits submissions → AreSerialBy IsMeant at_first c commits submissions
serial_right at_first c commits submissions is =
    All-from_recursion Meant (listed c.pipeline submissions) (each (listed c.pipeline submissions) (recursion_from_All Exact (listed c.pipeline submissions) is))
  where
    Exact : Submission → Type 0
    Exact s = IsSerialBy IsReply (committed_over at_first s.transaction.store commits (s.version - 1)) s.transaction.attempts

    Meant : Submission → Type 0
    Meant s = IsSerialBy IsMeant (committed_over at_first s.transaction.store commits (s.version - 1)) s.transaction.attempts

    each : (ss : List Submission) → AllByRecursion Exact ss → AllByRecursion Meant ss
    each [] all = tt
    each (s ∷ ss) all = (serial_meant (committed_over at_first s.transaction.store commits (s.version - 1)) s.transaction.attempts all.0, each ss all.1)

-- ---- requests

-- the ranges that begin a list cover no other keys
begin_covers : (all ranges rest : List KeyRange) (key : List ℕ) → all ≡ ranges ++ rest → covers ranges key ≡ true → covers all key ≡ true
begin_covers all ranges rest key is inside =
    ap (λ rs. covers rs key) is ∙ list_any-append (λ range. contains range key) ranges rest ∙ or_left (covers ranges key) (covers rest key) inside

added_read : (number : ℕ) (serial : Serial) (m : Map) (attempts : List Attempt) (added : List KeyRange) → HaveAdded number m serial attempts added → (key : List ℕ) → covers added key ≡ true → MayHaveRead number serial attempts key
added_read number serial m [] added have key inside = absurd (none (ap (λ rs. covers rs key) (sym have) ∙ inside))
  where
    none : false ≡ true → ⊥
    none bad = cc
added_read number serial m (attempt ∷ attempts) added (first, rest, is, has, have) key inside =
    elim (or_cases (covers first key) (covers rest key) (sym (list_any-append (λ range. contains range key) first rest) ∙ ap (λ rs. covers rs key) (sym is) ∙ inside)) [
      | inl here ↦ let begin = added_begin attempt.reply has in inl (reach_added number serial attempt.command m key (begin_covers (added_by number (opened_in number serial) attempt.command m) first begin.rest key begin.is here))
      | inr later ↦ inr (added_read number (attempted serial attempt) (after_all (attempt_writes number m serial attempt) m) attempts rest have key later)
    ]

-- a range that is kept once is one of those that were added
one_kept : (range : KeyRange) (ranges : List KeyRange) (key : List ℕ) → covers (with_range range ranges) key ≡ true → (contains range key ≡ true) ⊎ (covers ranges key ≡ true)
one_kept range ranges key is = by_test (list_any (is_same_range range) ranges) is
  where
    by_test : (b : Bool) → covers (cond b ranges (ranges ++ range ∷ [])) key ≡ true → (contains range key ≡ true) ⊎ (covers ranges key ≡ true)
    by_test true says = inr says
    by_test false says = elim (or_cases (covers ranges key) (covers (range ∷ []) key) (sym (list_any-append (λ r. contains r key) ranges (range ∷ [])) ∙ says)) [
      | inl there ↦ inr there
      | inr here ↦ elim (or_cases (contains range key) false here) [ inl own ↦ inl own | inr bad ↦ absurd (cc) ]
    ]

kept_covers : (added ranges : List KeyRange) (key : List ℕ) → covers (with_ranges added ranges) key ≡ true → (covers added key ≡ true) ⊎ (covers ranges key ≡ true)
kept_covers [] ranges key is = inr is
kept_covers (range ∷ added) ranges key is = elim (kept_covers added (with_range range ranges) key is) [
  | inl later ↦ inl (or_right (contains range key) (covers added key) later)
  | inr kept ↦ elim (one_kept range ranges key kept) [
    | inl here ↦ inl (or_left (contains range key) (covers added key) here)
    | inr there ↦ inr there
  ]
]

-- what is written by a command and then by others
split_writes : (a b : List Mutation) (key : List ℕ) → covers (write_ranges (a ++ b)) key ≡ true → (covers (write_ranges a) key || covers (write_ranges b) key) ≡ true
split_writes a b key is = sym (list_any-append (λ range. contains range key) (write_ranges a) (write_ranges b)) ∙ ap (λ rs. covers rs key) (sym (map-append write_range a b)) ∙ is

pub written_by : (number : ℕ) (serial : Serial) (m : Map) (attempts : List Attempt) (key : List ℕ) → covers (write_ranges (commands_written number m serial (accepted attempts))) key ≡ true → MayHaveWritten number serial attempts key
written_by number serial m [] key inside = absurd (cc)
written_by number serial m (attempt ∷ attempts) key inside =
    by_test (is_accepted attempt.reply) refl (written_by number (effect serial attempt.command) (after_all (writes number m serial attempt.command) m) attempts key) (written_by number serial m attempts key) inside
  where
    own : List Mutation
    own = writes number m serial attempt.command

    after : Serial
    after = effect serial attempt.command

    kept : List Attempt
    kept = filter (λ (a : Attempt). is_accepted a.reply) attempts

    by_test : (b : Bool) → is_accepted attempt.reply ≡ b →
        (covers (write_ranges (commands_written number (after_all own m) after (accepted attempts))) key ≡ true → MayHaveWritten number after attempts key) →
        (covers (write_ranges (commands_written number m serial (accepted attempts))) key ≡ true → MayHaveWritten number serial attempts key) →
        covers (write_ranges (commands_written number m serial (map (λ (a : Attempt). a.command) (cond b (attempt ∷ kept) kept)))) key ≡ true → MayHaveWritten number serial (attempt ∷ attempts) key
    by_test true yes_accepted behind beside says =
        elim (or_cases (covers (write_ranges own) key) (covers (write_ranges (commands_written number (after_all own m) after (accepted attempts))) key) (split_writes own (commands_written number (after_all own m) after (accepted attempts)) key says)) [
          | inl here ↦ inl (yes_accepted, writes_such (MayWriteKey number serial attempt.command) own (reach_writes number m serial attempt.command) key here)
          | inr later ↦ inr (subst (λ s. MayHaveWritten number s attempts key) (ap (λ b. cond b after serial) (sym yes_accepted)) (behind later))
        ]
    by_test false not_accepted behind beside says = inr (subst (λ s. MayHaveWritten number s attempts key) (ap (λ b. cond b after serial) (sym not_accepted)) (beside says))

request_right : (maps : ℕ → Map) (at_first : Stores) (commits : List CommitEntry) (one : Submission) (request : CommitRequest) → IsExactRequest maps at_first commits one request → IsRightRequest at_first commits one request
request_right maps at_first commits one request is = record {
  read_version = is.read_version;
  reads = λ key inside.
      elim (kept_covers is.reads.added [] key (ap (λ rs. covers rs key) (sym is.reads.are) ∙ inside)) [
        | inl added ↦ added_read one.transaction.store seen base one.transaction.attempts is.reads.added is.reads.each key added
        | inr none ↦ absurd (nothing none)
      ];
  writes = λ key inside. written_by one.transaction.store seen base one.transaction.attempts key (ap (λ ms. covers (write_ranges ms) key) (sym is.mutations) ∙ inside);
}
  where
    seen : Serial
    seen = committed_over at_first one.transaction.store commits one.transaction.read_version

    base : Map
    base = maps one.transaction.read_version

    nothing : false ≡ true → ⊥
    nothing bad = cc

pub requests_right : (maps : ℕ → Map) (at_first : Stores) (commits : List CommitEntry) (submissions : List Submission) (requests : List CommitRequest) → EachRequest (IsExactRequest maps at_first commits) submissions requests → EachRequest (IsRightRequest at_first commits) submissions requests
requests_right maps at_first commits [] [] each = tt
requests_right maps at_first commits [] (request ∷ requests) each = absurd each
requests_right maps at_first commits (one ∷ submissions) [] each = absurd each
requests_right maps at_first commits (one ∷ submissions) (request ∷ requests) each = (request_right maps at_first commits one request each.0, requests_right maps at_first commits submissions requests each.1)
