-- What is logged of a run is what is listed as committed, over plain values.
use Rattle.std.proofs.Common.{◌≡◌, ◌∙◌, ℕ, ◌+◌, ◌-◌, ◌<◌, ◌≤◌, Bool, true, false, cond, List, [], ◌∷◌, ◌++◌, Option, Some, None, length, take, drop, get_or, ap, refl, sym, subst, append-nil, arith, nat_lt}
use Rattle.std.specs.Prelude.{map}
use Rattle.std.specs.List.{filter, range_with_len}
use Rattle.std.proofs.lemmas.Bool.{ltb-true, ltb-false}
use Rattle.std.proofs.lemmas.Option.{slice_get_past}
use Rattle.kv_core.specs.Map.{Map}
use Rattle.kv_core.specs.declared.change.CommitRequest.{CommitRequest}
use Rattle.cluster_core.specs.declared.answers.Config.{Config}
use Rattle.cluster_core.specs.declared.answers.Reported.TheVariants.{NothingToDo}
use Rattle.cluster_core.specs.declared.answers.SubmitError.{SubmitError}
use Rattle.cluster_core.specs.declared.answers.SubmitError.TheVariants as submitting
use Rattle.cluster_core.specs.Cluster.{ClusterState, database_at, pull, with_pipeline}
use Rattle.cluster_core.specs.Configuration.{first_cluster_over}
use Rattle.cluster_core.specs.Roles.{PipelineState, all_handled, append, entries, may_report, outcome, report, resolve, submit_refusal, submitted, told_of}
use Rattle.schedule.specs.declared.refusal.Refusal.TheVariants.{NoSuchClient, NoTransaction, TooOld, VersionsExhausted}
use Rattle.schedule.specs.declared.reply.Reply.{Reply}
use Rattle.schedule.specs.declared.reply.Reply.TheVariants as answers
use Rattle.schedule.specs.declared.reply.Report.{Report}
use Rattle.schedule.specs.declared.step.Step.{Step}
use Rattle.schedule.specs.declared.step.Step.TheVariants as steps
use Rattle.schedule.specs.Contract.{EachReply, InTransaction, client_of, commit_reply, past_of, report_to, reports_of, reports_reply, submit_reply}
use Rattle.schedule.specs.Exact.{IsReplyTo}
use Rattle.schedule.specs.Past.{Open, Past, Submission, is_changed, open_of, submission, submitted_in}
use Rattle.schedule.specs.Standing.{cluster_from, is_done, is_reported, with_next}
use Rattle.schedule.proofs.Submitting.{numbered_length, submitted_length}
use Rattle.schedule.specs.Stepwise.{HasDoneFrom, StepwiseState}
use Rattle.logged_schedule.specs.Entries.{logged_as, logged_in, told_first, waiting_in}
use Rattle.logged_schedule.specs.Laws.{LogsCommits}
use Rattle.logged_schedule.specs.Runs.{LosesNone, done_as}
use Rattle.logged_schedule.proofs.Even.{IsEven, short_requests, full_requests, told_more, even_submitted, grows_once}
use Rattle.logged_schedule.proofs.Versions.{told_so, listed_first, reported_some, back_report, back_settle}

-- ---- a commit

even_commit : (first : ClusterState) (R : List CommitRequest) (past : Past) (client : ℕ) (reply : Reply) → IsEven R (cluster_from first R past).pipeline past → IsReplyTo (cluster_from first R past) past (steps.Commit client) reply →
    length (submitted_in ((steps.Commit client, reply) ∷ past)) ≤ length R → IsEven R (cluster_from first R ((steps.Commit client, reply) ∷ past)).pipeline ((steps.Commit client, reply) ∷ past)
even_commit first R past client (answers.Begun v) even right within = record { requests = even.requests; versions = even.versions; begun = even.begun; given = even.given; waits = even.waits; logs = append-nil (logged_in past) ∙ even.logs }
even_commit first R past client answers.Done even right within = record { requests = even.requests; versions = even.versions; begun = even.begun; given = even.given; waits = even.waits; logs = append-nil (logged_in past) ∙ even.logs }
even_commit first R past client answers.SavedNew even right within = record { requests = even.requests; versions = even.versions; begun = even.begun; given = even.given; waits = even.waits; logs = append-nil (logged_in past) ∙ even.logs }
even_commit first R past client (answers.SavedOver cells) even right within = record { requests = even.requests; versions = even.versions; begun = even.begun; given = even.given; waits = even.waits; logs = append-nil (logged_in past) ∙ even.logs }
even_commit first R past client (answers.Found cells) even right within = record { requests = even.requests; versions = even.versions; begun = even.begun; given = even.given; waits = even.waits; logs = append-nil (logged_in past) ∙ even.logs }
even_commit first R past client answers.Absent even right within = record { requests = even.requests; versions = even.versions; begun = even.begun; given = even.given; waits = even.waits; logs = append-nil (logged_in past) ∙ even.logs }
even_commit first R past client answers.Removed even right within = record { requests = even.requests; versions = even.versions; begun = even.begun; given = even.given; waits = even.waits; logs = append-nil (logged_in past) ∙ even.logs }
even_commit first R past client (answers.Rows rows) even right within = record { requests = even.requests; versions = even.versions; begun = even.begun; given = even.given; waits = even.waits; logs = append-nil (logged_in past) ∙ even.logs }
even_commit first R past client (answers.Planned plan) even right within = record { requests = even.requests; versions = even.versions; begun = even.begun; given = even.given; waits = even.waits; logs = append-nil (logged_in past) ∙ even.logs }
even_commit first R past client (answers.Indexed state) even right within = record { requests = even.requests; versions = even.versions; begun = even.begun; given = even.given; waits = even.waits; logs = append-nil (logged_in past) ∙ even.logs }
even_commit first R past client (answers.State state) even right within = record { requests = even.requests; versions = even.versions; begun = even.begun; given = even.given; waits = even.waits; logs = append-nil (logged_in past) ∙ even.logs }
even_commit first R past client (answers.Total total) even right within = record { requests = even.requests; versions = even.versions; begun = even.begun; given = even.given; waits = even.waits; logs = append-nil (logged_in past) ∙ even.logs }
even_commit first R past client (answers.Built records range) even right within = record { requests = even.requests; versions = even.versions; begun = even.begun; given = even.given; waits = even.waits; logs = append-nil (logged_in past) ∙ even.logs }
even_commit first R past client answers.Finished even right within = record { requests = even.requests; versions = even.versions; begun = even.begun; given = even.given; waits = even.waits; logs = append-nil (logged_in past) ∙ even.logs }
even_commit first R past client answers.ReadOnly even right within = record { requests = even.requests; versions = even.versions; begun = even.begun; given = even.given; waits = even.waits; logs = append-nil (logged_in past) ∙ even.logs }
even_commit first R past client answers.Nothing even right within = record { requests = even.requests; versions = even.versions; begun = even.begun; given = even.given; waits = even.waits; logs = append-nil (logged_in past) ∙ even.logs }
even_commit first R past client (answers.Reported reports) even right within = record { requests = even.requests; versions = even.versions; begun = even.begun; given = even.given; waits = even.waits; logs = append-nil (logged_in past) ∙ even.logs }
even_commit first R past client (answers.Refused refusal) even right within = record { requests = even.requests; versions = even.versions; begun = even.begun; given = even.given; waits = even.waits; logs = append-nil (logged_in past) ∙ even.logs }
even_commit first R past client (answers.Corrupt key) even right within = record { requests = even.requests; versions = even.versions; begun = even.begun; given = even.given; waits = even.waits; logs = append-nil (logged_in past) ∙ even.logs }
even_commit first R past client answers.Stopped even right within = record { requests = even.requests; versions = even.versions; begun = even.begun; given = even.given; waits = even.waits; logs = append-nil (logged_in past) ∙ even.logs }
even_commit first R past client (answers.Submitted v) even right within = by_client (nat_lt client 16) refl
  where
    p : PipelineState
    p = (cluster_from first R past).pipeline

    more : List Submission
    more = submission client v (open_of client past)

    Goal : Type 0
    Goal = IsEven R (with_next R p) ((steps.Commit client, answers.Submitted v) ∷ past)

    room : length (submitted_in past ++ more) ≤ length R
    room = within

    given : (open_now : Open) → open_of client past ≡ Some open_now → v ≡ submitted p + 1 → Goal
    given open_now is at =
        let new : Submission = record { version = v; client = client; transaction = open_now } in
        let now : more ≡ new ∷ [] = ap (submission client v) is in
        even_submitted R p past ((steps.Commit client, answers.Submitted v) ∷ past) new (ap (λ ss. submitted_in past ++ ss) now) (ap (λ ss. waiting_in past ++ ss) now) (append-nil (logged_in past)) at
        (subst (λ ss. length (submitted_in past ++ ss) ≤ length R) now room) even

    by_refusal : (open_now : Open) → open_of client past ≡ Some open_now → (o : Option SubmitError) → answers.Submitted v ≡ submit_reply p o → Goal
    by_refusal open_now is None same = given open_now is (let at : v ≡ submitted p + 1 = cc in at)
    by_refusal open_now is (Some submitting.TooOld) same = absurd (let no : answers.Submitted v ≡ answers.Refused TooOld = same in cc)
    by_refusal open_now is (Some submitting.VersionsExhausted) same = absurd (let no : answers.Submitted v ≡ answers.Refused VersionsExhausted = same in cc)
    by_refusal open_now is (Some submitting.Memory) same = absurd (let no : answers.Submitted v ≡ answers.Refused VersionsExhausted = same in cc)

    by_change : (open_now : Open) → open_of client past ≡ Some open_now → (b : Bool) → answers.Submitted v ≡ cond b (submit_reply p (submit_refusal p open_now.read_version)) answers.ReadOnly → Goal
    by_change open_now is true same = by_refusal open_now is (submit_refusal p open_now.read_version) same
    by_change open_now is false same = absurd (let no : answers.Submitted v ≡ answers.ReadOnly = same in cc)

    by_open : (o : Option Open) → open_of client past ≡ o → InTransaction o (λ open_now. answers.Submitted v ≡ commit_reply (cluster_from first R past) open_now) (answers.Submitted v) → Goal
    by_open None is same = absurd (let no : answers.Submitted v ≡ answers.Refused NoTransaction = same in cc)
    by_open (Some open_now) is same = by_change open_now is (is_changed open_now.attempts) same

    by_client : (b : Bool) → nat_lt client 16 ≡ b → Goal
    by_client true is = by_open (open_of client past) refl (right.0 is)
    by_client false is = absurd (let no : answers.Submitted v ≡ answers.Refused NoSuchClient = right.1 is in cc)

-- ---- a step

pub even_next : (first : ClusterState) (R : List CommitRequest) (past : Past) (step : Step) (reply : Reply) → IsEven R (cluster_from first R past).pipeline past → IsReplyTo (cluster_from first R past) past step reply → done_as step ≡ step →
    length (submitted_in ((step, reply) ∷ past)) ≤ length R → IsEven R (cluster_from first R ((step, reply) ∷ past)).pipeline ((step, reply) ∷ past)
even_next first R past (steps.Begin client store) reply even right kept within = record { requests = even.requests; versions = even.versions; begun = even.begun; given = even.given; waits = even.waits; logs = append-nil (logged_in past) ∙ even.logs }
even_next first R past (steps.Perform client command) reply even right kept within = record { requests = even.requests; versions = even.versions; begun = even.begun; given = even.given; waits = even.waits; logs = append-nil (logged_in past) ∙ even.logs }
even_next first R past (steps.Execute client) reply even right kept within = record { requests = even.requests; versions = even.versions; begun = even.begun; given = even.given; waits = even.waits; logs = append-nil (logged_in past) ∙ even.logs }
even_next first R past (steps.Abandon client) reply even right kept within = record { requests = even.requests; versions = even.versions; begun = even.begun; given = even.given; waits = even.waits; logs = append-nil (logged_in past) ∙ even.logs }
even_next first R past (steps.Commit client) reply even right kept within = even_commit first R past client reply even right within
even_next first R past (steps.Resolve r) reply even right kept within = by_done (is_done reply)
  where
    by_done : (b : Bool) → IsEven R (cond b (with_pipeline (resolve r (cluster_from first R past).pipeline) (cluster_from first R past)) (cluster_from first R past)).pipeline ((steps.Resolve r, reply) ∷ past)
    by_done true = record { requests = even.requests; versions = even.versions; begun = even.begun; given = even.given; waits = even.waits; logs = append-nil (logged_in past) ∙ even.logs }
    by_done false = record { requests = even.requests; versions = even.versions; begun = even.begun; given = even.given; waits = even.waits; logs = append-nil (logged_in past) ∙ even.logs }
even_next first R past (steps.Log l) reply even right kept within = by_done (is_done reply)
  where
    by_done : (b : Bool) → IsEven R (cond b (with_pipeline (append l (cluster_from first R past).pipeline) (cluster_from first R past)) (cluster_from first R past)).pipeline ((steps.Log l, reply) ∷ past)
    by_done true = record { requests = even.requests; versions = even.versions; begun = even.begun; given = even.given; waits = even.waits; logs = append-nil (logged_in past) ∙ even.logs }
    by_done false = record { requests = even.requests; versions = even.versions; begun = even.begun; given = even.given; waits = even.waits; logs = append-nil (logged_in past) ∙ even.logs }
even_next first R past (steps.Pull s) reply even right kept within = by_done (is_done reply)
  where
    by_done : (b : Bool) → IsEven R (cond b (pull s (cluster_from first R past)) (cluster_from first R past)).pipeline ((steps.Pull s, reply) ∷ past)
    by_done true = record { requests = even.requests; versions = even.versions; begun = even.begun; given = even.given; waits = even.waits; logs = append-nil (logged_in past) ∙ even.logs }
    by_done false = record { requests = even.requests; versions = even.versions; begun = even.begun; given = even.given; waits = even.waits; logs = append-nil (logged_in past) ∙ even.logs }
even_next first R past steps.Report reply even right kept within = subst (λ r. Next r) (sym right) (by_may (may_report p))
  where
    p : PipelineState
    p = (cluster_from first R past).pipeline

    subs : List Submission
    subs = submitted_in past

    Next : Reply → Type 0
    Next r = IsEven R (cond (is_reported r) (with_pipeline (report p) (cluster_from first R past)) (cluster_from first R past)).pipeline ((steps.Report, r) ∷ past)

    nothing : Next answers.Nothing
    nothing = record { requests = even.requests; versions = even.versions; begun = even.begun; given = even.given; waits = even.waits; logs = append-nil (logged_in past) ∙ even.logs }

    told_one : List Report
    told_one = reports_of p subs ((p.reported + 1) ∷ [])

    none : length subs ≤ p.reported - p.start → Next (reports_reply told_one)
    none ended =
        let from : p.start ≤ p.reported = even.begun in
        let count : length (entries p) ≡ length p.requests = numbered_length p.start p.requests in
        let short : length p.requests ≤ length subs = short_requests R p past even in
        let gone : outcome p (p.reported + 1) ≡ NothingToDo = ap (told_of p) (slice_get_past (entries p) (p.reported + 1 - p.start - 1) (omega (arith, from, count, short, ended))) in
        subst (λ o. Next (reports_reply (report_to (client_of subs (p.reported + 1)) o ++ []))) (sym gone) nothing

    one : p.reported - p.start < length subs → Next (reports_reply told_one)
    one some =
        let from : p.start ≤ p.reported = even.begun in
        let told_now = told_more p R past even 1 within_now (omega (arith, from, some)) in
        let flag : is_reported (reports_reply told_one) ≡ true = reported_some told_one (let n : length told_one ≡ 1 = told_now.count in omega (arith, n)) in
        subst (λ b. IsEven R (cond b (with_pipeline (report p) (cluster_from first R past)) (cluster_from first R past)).pipeline ((steps.Report, reports_reply told_one) ∷ past)) (sym flag)
        (record {
          requests = even.requests;
          versions = even.versions;
          begun = omega (arith, from);
          given = omega (arith, from, some);
          waits = ap (λ rs. drop (length rs) (waiting_in past)) (back_report told_one) ∙ told_now.waits;
          logs = ap (λ rs. logged_in past ++ map logged_as (told_first rs (waiting_in past))) (back_report told_one) ∙ told_now.logs;
        })
      where
        within_now : length subs ≤ length R
        within_now = within

    by_may : (b : Bool) → Next (cond b (reports_reply told_one) answers.Nothing)
    by_may false = nothing
    by_may true = by_place (nat_lt (p.reported - p.start) (length subs)) refl
      where
        by_place : (b : Bool) → nat_lt (p.reported - p.start) (length subs) ≡ b → Next (reports_reply told_one)
        by_place true is = one (ltb-true (p.reported - p.start) (length subs) is)
        by_place false is = none (ltb-false (p.reported - p.start) (length subs) is)
even_next first R past steps.Lost reply even right kept within = absurd (let no : steps.Report ≡ steps.Lost = kept in cc)
even_next first R past steps.Settle reply even right kept within = subst (λ r. IsEven R (all_handled p) ((steps.Settle, r) ∷ past)) (sym right) settled_now
  where
    p : PipelineState
    p = (cluster_from first R past).pipeline

    subs : List Submission
    subs = submitted_in past

    count : ℕ
    count = submitted p - p.reported

    told_all : List Report
    told_all = reports_of p subs (range_with_len (p.reported + 1) count)

    within_now : length subs ≤ length R
    within_now = within

    full : length p.requests ≡ length subs
    full = full_requests R p past even within_now

    upto : p.reported + count ≡ submitted p
    upto = let given : p.reported ≤ p.start + length subs = even.given in omega (arith, full, given)

    settled_now : IsEven R (all_handled p) ((steps.Settle, reports_reply told_all) ∷ past)
    settled_now =
        let from : p.start ≤ p.reported = even.begun in
        let told_now = told_more p R past even count within_now (omega (arith, upto, full)) in
        record {
          requests = even.requests;
          versions = even.versions;
          begun = omega arith;
          given = omega (arith, full);
          waits = ap (λ rs. drop (length rs) (waiting_in past)) (back_settle told_all) ∙ told_now.waits ∙ ap (λ r. drop (r - p.start) subs) upto;
          logs =
              ap (λ rs. logged_in past ++ map logged_as (told_first rs (waiting_in past))) (back_settle told_all) ∙ told_now.logs
              ∙ ap (λ r. map logged_as (filter (told_so p) (take (r - p.start) subs))) upto;
        }

-- ---- steps, one after another

pub submitted_grows : (past : Past) (done : List Step) (replies : List Reply) → length (submitted_in past) ≤ length (submitted_in (past_of past done replies))
submitted_grows past [] replies = omega arith
submitted_grows past (step ∷ done) [] = omega arith
submitted_grows past (step ∷ done) (reply ∷ replies) =
    let next : length (submitted_in past) ≤ length (submitted_in ((step, reply) ∷ past)) = grows_once step reply past in
    let rest : length (submitted_in ((step, reply) ∷ past)) ≤ length (submitted_in (past_of ((step, reply) ∷ past) done replies)) = submitted_grows ((step, reply) ∷ past) done replies in
    omega (arith, next, rest)

even_run : (first : ClusterState) (R : List CommitRequest) (past : Past) (done : List Step) (replies : List Reply) → EachReply (λ past step reply. IsReplyTo (cluster_from first R past) past step reply) past done replies → LosesNone done →
    length (submitted_in (past_of past done replies)) ≤ length R → IsEven R (cluster_from first R past).pipeline past → IsEven R (cluster_from first R (past_of past done replies)).pipeline (past_of past done replies)
even_run first R past [] [] each none within even = even
even_run first R past [] (reply ∷ replies) each none within even = absurd each
even_run first R past (step ∷ done) [] each none within even = absurd each
even_run first R past (step ∷ done) (reply ∷ replies) each none within even =
    let rest : length (submitted_in ((step, reply) ∷ past)) ≤ length (submitted_in (past_of ((step, reply) ∷ past) done replies)) = submitted_grows ((step, reply) ∷ past) done replies in
    even_run first R ((step, reply) ∷ past) done replies each.1 (ap (drop 1) none) within (even_next first R past step reply even each.0 (ap (λ l. get_or l 0 step) none) (omega (arith, rest, within)))

-- so it stands at the start
pub even_none : (base : Map) (config : Config) (R : List CommitRequest) → IsEven R (first_cluster_over base config).pipeline []
even_none base config R =
    let no_subs : List Submission = [] in
    let none_yet : config.start - config.start ≡ 0 = omega arith in
    record {
      requests = refl;
      versions = tt;
      begun = omega arith;
      given = omega arith;
      waits = ap (λ n. drop n no_subs) (sym none_yet);
      logs = ap (λ n. map logged_as (filter (told_so (first_cluster_over base config).pipeline) (take n no_subs))) (sym none_yet);
    }

-- and beside what a schedule has done
pub even_done : (base : Map) (config : Config) (done : List Step) (replies : List Reply) (state : StepwiseState) → HasDoneFrom (first_cluster_over base config) done replies state → LosesNone done → IsEven (state.database.cluster.pipeline.requests ++ []) state.database.cluster.pipeline (past_of [] done replies)
even_done base config done replies state has none =
    let requests = state.database.cluster.pipeline.requests in
    let R : List CommitRequest = requests ++ [] in
    let past : Past = past_of [] done replies in
    let last = state.database.cluster.pipeline in
    let same : (cluster_from (first_cluster_over base config) R past).pipeline ≡ last = ap (λ (c : ClusterState). c.pipeline) (has.0.cluster []) in
    let count : length (submitted_in past) ≡ length requests = submitted_length (database_at state.database.cluster) last.reported last.start (submitted_in past) requests has.0.stands.submitted in
    let all : length R ≡ length requests = ap length (append-nil requests) in
    subst (λ p. IsEven R p past) same (even_run (first_cluster_over base config) R [] done replies (has.0.right []) none (omega (arith, count, all)) (even_none base config R))

-- LOGGED: it is what is listed
pub logs_commits : LogsCommits
logs_commits base config done replies state has none =
    let even = even_done base config done replies state has none in
    even.logs ∙ sym (ap (map logged_as) (listed_first state.database.cluster.pipeline (submitted_in (past_of [] done replies)) even.begun even.versions))
