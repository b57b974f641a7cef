-- The versions of what is logged rise, over plain values.
use Rattle.std.proofs.Common.{◌≡◌, ◌∙◌, ◌⊎◌, nat_lt, ℕ, ◌+◌, ◌-◌, ◌<◌, ◌≤◌, Bool, true, false, cond, List, [], ◌∷◌, ◌++◌, length, drop, max, inl, inr, ap, refl, sym, subst, subst₂, append-nil, arith}
use Rattle.std.specs.Prelude.{IfOk, Result, Ok, Err, map}
use Rattle.std.proofs.lemmas.Bool.{ltb-true, ltb-false}
use Rattle.std.proofs.lemmas.List.{length-append}
use Rattle.std.specs.FinMap.{empty}
use Rattle.kv_core.specs.Map.{Map}
use Rattle.kv_core.specs.declared.change.CommitRequest.{CommitRequest}
use Rattle.cluster_core.specs.declared.answers.Config.{Config}
use Rattle.cluster_core.specs.Cluster.{ClusterState, pull, with_pipeline}
use Rattle.cluster_core.specs.Configuration.{first_cluster_over}
use Rattle.cluster_core.specs.Roles.{PipelineState, append, report, resolve}
use Rattle.command_log.specs.declared.entry.Entry.{Entry}
use Rattle.replay.specs.Logged.{ComeInOrder, IsLawfulLog, last_version, log_database}
use Rattle.replay.specs.Replaying.{AreWrittenAs, Image, IsLogged, IsReplay}
use Rattle.replay.proofs.Stores.{holds_nothing}
use Rattle.schedule.specs.declared.reply.Reply.{Reply}
use Rattle.schedule.specs.declared.reply.Reply.TheVariants as answers
use Rattle.schedule.specs.declared.reply.Report.{Report}
use Rattle.schedule.specs.declared.reply.Report.TheVariants.{Committed, Conflict, Unknown}
use Rattle.schedule.specs.declared.step.Step.{Step}
use Rattle.schedule.specs.declared.step.Step.TheVariants as steps
use Rattle.schedule.specs.Contract.{past_of}
use Rattle.schedule.specs.Holds.{HoldsAll}
use Rattle.schedule.specs.Past.{Past, Submission, open_of, submission, submitted_after, submitted_in}
use Rattle.schedule.specs.Standing.{cluster_from, is_done, is_reported, is_submitted, with_next}
use Rattle.schedule.specs.Stepwise.{HasDoneFrom, StepwiseState}
use Rattle.schedule.proofs.Submitting.{AreVersioned}
use Rattle.logged_schedule.specs.Entries.{logged_as, newly_logged, reports_in, told_first, waiting_in}
use Rattle.logged_schedule.specs.declared.error.OpenError.{OpenError}
use Rattle.logged_schedule.specs.declared.followed.Followed.{Followed}
use Rattle.logged_schedule.specs.Keeping.{VersionsRise}
use Rattle.logged_schedule.specs.Opening.{IsBegunAgain}
use Rattle.replay.specs.Continuing.{config_after, from_version}
use Rattle.logged_schedule.specs.Reopening.{IsBegunOverSome}
use Rattle.logged_schedule.specs.Runs.{IsHeldLog, LosesNone, Run, first_in, past_in}
use Rattle.logged_schedule.specs.Standing.{BeginsFollowed}
use Rattle.logged_schedule.proofs.Even.{IsEven, drop_length}
use Rattle.logged_schedule.proofs.Listed.{even_done}
use Rattle.logged_schedule.proofs.Longer.{longer_past}
use Rattle.logged_schedule.proofs.Versions.{versions_left}

-- ---- versions that rise

rise_both : (version : ℕ) (some others : List Entry) → VersionsRise version some → VersionsRise (last_version version some) others → VersionsRise version (some ++ others)
rise_both version [] others first last = last
rise_both version (entry ∷ some) others first last = (first.0, rise_both entry.version some others first.1 last)

pub last_both : (version : ℕ) (some others : List Entry) → last_version version (some ++ others) ≡ last_version (last_version version some) others
last_both version [] others = refl
last_both version (entry ∷ some) others = last_both entry.version some others

-- so many versions are told of at most
abbrev Within : (last limit : ℕ) → List Report → List Submission → Type 0
Within last limit reports waiting = (last + length reports ≤ limit) ⊎ (last + length waiting ≤ limit)

within_next : (last limit : ℕ) (report : Report) (reports : List Report) (one : Submission) (waiting : List Submission) → Within last limit (report ∷ reports) (one ∷ waiting) → Within (last + 1) limit reports waiting
within_next last limit report reports one waiting (inl all) = inl (omega (arith, all))
within_next last limit report reports one waiting (inr all) = inr (omega (arith, all))

within_least : (last limit : ℕ) (reports : List Report) (waiting : List Submission) → Within last limit reports waiting → last ≤ limit
within_least last limit reports waiting (inl all) = omega (arith, all)
within_least last limit reports waiting (inr all) = omega (arith, all)

abbrev RisesTo : (version limit : ℕ) → List Entry → Type 0
RisesTo version limit entries = VersionsRise version entries × (last_version version entries ≤ limit)

none_rise : (version last limit : ℕ) (reports : List Report) (waiting : List Submission) → version ≤ last → Within last limit reports waiting → RisesTo version limit []
none_rise version last limit reports waiting below within = let least : last ≤ limit = within_least last limit reports waiting within in (tt, omega (arith, below, least))

told_rise : (version last limit : ℕ) (reports : List Report) (waiting : List Submission) → AreVersioned last waiting → version ≤ last → Within last limit reports waiting → RisesTo version limit (map logged_as (told_first reports waiting))
told_rise version last limit [] waiting are below within = none_rise version last limit [] waiting below within
told_rise version last limit (Committed client v ∷ reports) [] are below within = none_rise version last limit (Committed client v ∷ reports) [] below within
told_rise version last limit (Conflict client seen range ∷ reports) [] are below within = none_rise version last limit (Conflict client seen range ∷ reports) [] below within
told_rise version last limit (Unknown client ∷ reports) [] are below within = none_rise version last limit (Unknown client ∷ reports) [] below within
told_rise version last limit (Committed client v ∷ reports) (one ∷ waiting) are below within =
    let at : one.version ≡ last + 1 = are.0 in
    let rest = told_rise one.version (last + 1) limit reports waiting are.1 (omega (arith, at)) (within_next last limit (Committed client v) reports one waiting within) in
    ((omega (arith, at, below), rest.0), rest.1)
told_rise version last limit (Conflict client seen range ∷ reports) (one ∷ waiting) are below within = told_rise version (last + 1) limit reports waiting are.1 (omega (arith, below)) (within_next last limit (Conflict client seen range) reports one waiting within)
told_rise version last limit (Unknown client ∷ reports) (one ∷ waiting) are below within = told_rise version (last + 1) limit reports waiting are.1 (omega (arith, below)) (within_next last limit (Unknown client) reports one waiting within)

-- ---- what is reported

start_cond : (b : Bool) (next c : ClusterState) → next.pipeline.start ≡ c.pipeline.start → (cond b next c).pipeline.start ≡ c.pipeline.start
start_cond true next c same = same
start_cond false next c same = refl

start_is : (first : ClusterState) (R : List CommitRequest) (past : Past) → (cluster_from first R past).pipeline.start ≡ first.pipeline.start
start_is first R [] = refl
start_is first R ((steps.Begin client store, reply) ∷ past) = start_is first R past
start_is first R ((steps.Perform client command, reply) ∷ past) = start_is first R past
start_is first R ((steps.Execute client, reply) ∷ past) = start_is first R past
start_is first R ((steps.Abandon client, reply) ∷ past) = start_is first R past
start_is first R ((steps.Settle, reply) ∷ past) = start_is first R past
start_is first R ((steps.Commit client, reply) ∷ past) = let c = cluster_from first R past in start_cond (is_submitted reply) (with_pipeline (with_next R c.pipeline) c) c refl ∙ start_is first R past
start_is first R ((steps.Resolve r, reply) ∷ past) = let c = cluster_from first R past in start_cond (is_done reply) (with_pipeline (resolve r c.pipeline) c) c refl ∙ start_is first R past
start_is first R ((steps.Log l, reply) ∷ past) = let c = cluster_from first R past in start_cond (is_done reply) (with_pipeline (append l c.pipeline) c) c refl ∙ start_is first R past
start_is first R ((steps.Pull s, reply) ∷ past) = let c = cluster_from first R past in start_cond (is_done reply) (pull s c) c refl ∙ start_is first R past
start_is first R ((steps.Report, reply) ∷ past) = let c = cluster_from first R past in start_cond (is_reported reply) (with_pipeline (report c.pipeline) c) c refl ∙ start_is first R past
start_is first R ((steps.Lost, reply) ∷ past) = let c = cluster_from first R past in start_cond (is_reported reply) (with_pipeline (report c.pipeline) c) c refl ∙ start_is first R past

pub state_start : (first : ClusterState) (done : List Step) (replies : List Reply) (state : StepwiseState) → HasDoneFrom first done replies state → state.database.cluster.pipeline.start ≡ first.pipeline.start
state_start first done replies state has =
    let R : List CommitRequest = state.database.cluster.pipeline.requests ++ [] in
    sym (ap (λ (c : ClusterState). c.pipeline.start) (has.0.cluster [])) ∙ start_is first R (past_of [] done replies)

-- what a step submits
abbrev Adds : Step → Reply → Past → Type 0
Adds step reply past = (more : List Submission) × ((xs : List Submission) → submitted_after step reply past xs ≡ xs ++ more)

adds : (step : Step) (reply : Reply) (past : Past) → Adds step reply past
adds (steps.Begin client store) reply past = ([], λ xs. sym (append-nil xs))
adds (steps.Perform client command) reply past = ([], λ xs. sym (append-nil xs))
adds (steps.Execute client) reply past = ([], λ xs. sym (append-nil xs))
adds (steps.Abandon client) reply past = ([], λ xs. sym (append-nil xs))
adds (steps.Resolve r) reply past = ([], λ xs. sym (append-nil xs))
adds (steps.Log l) reply past = ([], λ xs. sym (append-nil xs))
adds (steps.Pull s) reply past = ([], λ xs. sym (append-nil xs))
adds steps.Report reply past = ([], λ xs. sym (append-nil xs))
adds steps.Lost reply past = ([], λ xs. sym (append-nil xs))
adds steps.Settle reply past = ([], λ xs. sym (append-nil xs))
adds (steps.Commit client) (answers.Begun v) past = ([], λ xs. sym (append-nil xs))
adds (steps.Commit client) answers.Done past = ([], λ xs. sym (append-nil xs))
adds (steps.Commit client) answers.SavedNew past = ([], λ xs. sym (append-nil xs))
adds (steps.Commit client) (answers.SavedOver cells) past = ([], λ xs. sym (append-nil xs))
adds (steps.Commit client) (answers.Found cells) past = ([], λ xs. sym (append-nil xs))
adds (steps.Commit client) answers.Absent past = ([], λ xs. sym (append-nil xs))
adds (steps.Commit client) answers.Removed past = ([], λ xs. sym (append-nil xs))
adds (steps.Commit client) (answers.Rows rows) past = ([], λ xs. sym (append-nil xs))
adds (steps.Commit client) (answers.Planned plan) past = ([], λ xs. sym (append-nil xs))
adds (steps.Commit client) (answers.Indexed state) past = ([], λ xs. sym (append-nil xs))
adds (steps.Commit client) (answers.State state) past = ([], λ xs. sym (append-nil xs))
adds (steps.Commit client) (answers.Total total) past = ([], λ xs. sym (append-nil xs))
adds (steps.Commit client) (answers.Built records range) past = ([], λ xs. sym (append-nil xs))
adds (steps.Commit client) answers.Finished past = ([], λ xs. sym (append-nil xs))
adds (steps.Commit client) answers.ReadOnly past = ([], λ xs. sym (append-nil xs))
adds (steps.Commit client) answers.Nothing past = ([], λ xs. sym (append-nil xs))
adds (steps.Commit client) (answers.Reported reports) past = ([], λ xs. sym (append-nil xs))
adds (steps.Commit client) (answers.Refused refusal) past = ([], λ xs. sym (append-nil xs))
adds (steps.Commit client) (answers.Corrupt key) past = ([], λ xs. sym (append-nil xs))
adds (steps.Commit client) answers.Stopped past = ([], λ xs. sym (append-nil xs))
adds (steps.Commit client) (answers.Submitted v) past = (submission client v (open_of client past), λ xs. refl)

-- what a step tells of is reported then
reported_within : (R S : List CommitRequest) (p q : PipelineState) (past : Past) (step : Step) (reply : Reply) → p.start ≡ q.start → IsEven R p past → IsEven S q ((step, reply) ∷ past) →
    Within p.reported q.reported (reports_in step reply) (drop (p.reported - p.start) (submitted_in past))
reported_within R S p q past step reply same before after = by_count (nat_lt (length reports) (length waiting + 1)) refl
  where
    reports : List Report
    reports = reports_in step reply

    waiting : List Submission
    waiting = drop (p.reported - p.start) (submitted_in past)

    more : List Submission
    more = (adds step reply past).0

    left : length waiting ≡ length (submitted_in past) - (p.reported - p.start)
    left = drop_length (p.reported - p.start) (submitted_in past)

    subs_now : length (submitted_in ((step, reply) ∷ past)) ≡ length (submitted_in past) + length more
    subs_now = ap length ((adds step reply past).1 (submitted_in past)) ∙ length-append (submitted_in past) more

    rest : length (drop (length reports) (waiting_in past)) ≡ length waiting - length reports
    rest = drop_length (length reports) (waiting_in past) ∙ ap (λ (ss : List Submission). length ss - length reports) before.waits

    left_now : length (drop (q.reported - q.start) (submitted_in ((step, reply) ∷ past))) ≡ length (submitted_in ((step, reply) ∷ past)) - (q.reported - q.start)
    left_now = drop_length (q.reported - q.start) (submitted_in ((step, reply) ∷ past))

    waits_now : length (drop (q.reported - q.start) (submitted_in ((step, reply) ∷ past))) ≡ length (drop (length reports) (waiting_in past)) + length more
    waits_now = sym (ap length after.waits) ∙ ap length ((adds step reply past).1 (drop (length reports) (waiting_in past))) ∙ length-append (drop (length reports) (waiting_in past)) more

    from : p.start ≤ p.reported
    from = before.begun

    upto : p.reported ≤ p.start + length (submitted_in past)
    upto = before.given

    from_now : q.start ≤ q.reported
    from_now = after.begun

    upto_now : q.reported ≤ q.start + length (submitted_in ((step, reply) ∷ past))
    upto_now = after.given

    by_count : (b : Bool) → nat_lt (length reports) (length waiting + 1) ≡ b → Within p.reported q.reported reports waiting
    by_count true is =
        let few : length reports < length waiting + 1 = ltb-true (length reports) (length waiting + 1) is in
        inl (omega (arith, few, left, subs_now, rest, left_now, waits_now, from, upto, from_now, upto_now, same))
    by_count false is =
        let many : length waiting + 1 ≤ length reports = ltb-false (length reports) (length waiting + 1) is in
        inr (omega (arith, many, left, subs_now, rest, left_now, waits_now, from, upto, from_now, upto_now, same))

-- ---- a step

pub rising_step : (run : Run) (step : Step) (reply : Reply) (before after : StepwiseState) → HasDoneFrom (first_in run) run.steps run.replies before → HasDoneFrom (first_in run) (run.steps ++ step ∷ []) (run.replies ++ reply ∷ []) after → LosesNone run.steps → LosesNone (run.steps ++ step ∷ []) →
    (entries : List Entry) → VersionsRise 0 entries → last_version 0 entries ≤ before.database.cluster.pipeline.reported →
    VersionsRise 0 (entries ++ newly_logged (past_in run) step reply) × (last_version 0 (entries ++ newly_logged (past_in run) step reply) ≤ after.database.cluster.pipeline.reported)
rising_step run step reply before after has has_now none none_now entries rise upto = (
  rise_both 0 entries more rise rises.0,
  subst (λ v. v ≤ q.reported) (sym (last_both 0 entries more)) rises.1,
)
  where
    p : PipelineState
    p = before.database.cluster.pipeline

    q : PipelineState
    q = after.database.cluster.pipeline

    past : Past
    past = past_in run

    more : List Entry
    more = newly_logged past step reply

    even : IsEven (p.requests ++ []) p past
    even = even_done (log_database run.before).map run.config run.steps run.replies before has none

    even_now : IsEven (q.requests ++ []) q ((step, reply) ∷ past)
    even_now = subst (IsEven (q.requests ++ []) q) (longer_past run step reply before has) (even_done (log_database run.before).map run.config (run.steps ++ step ∷ []) (run.replies ++ reply ∷ []) after has_now none_now)

    same : p.start ≡ q.start
    same = state_start (first_in run) run.steps run.replies before has ∙ sym (state_start (first_in run) (run.steps ++ step ∷ []) (run.replies ++ reply ∷ []) after has_now)

    from : p.start ≤ p.reported
    from = even.begun

    here : p.start + (p.reported - p.start) ≡ p.reported
    here = omega (arith, from)

    waiting : List Submission
    waiting = drop (p.reported - p.start) (submitted_in past)

    rises : RisesTo (last_version 0 entries) q.reported more
    rises = subst (λ ss. RisesTo (last_version 0 entries) q.reported (map logged_as (told_first (reports_in step reply) ss))) (sym even.waits)
        (told_rise (last_version 0 entries) p.reported q.reported (reports_in step reply) waiting (subst (λ v. AreVersioned v waiting) here (versions_left p.start (p.reported - p.start) (submitted_in past) even.versions)) upto
        (reported_within (p.requests ++ []) (q.requests ++ []) p q past step reply same even even_now))

-- ---- a log

in_order_rise : (version : ℕ) (entries : List Entry) → ComeInOrder version entries → VersionsRise version entries
in_order_rise version [] order = tt
in_order_rise version (entry ∷ entries) (above, lawful, order) = (above, in_order_rise entry.version entries order)

-- the versions of a lawful log rise
pub lawful_rise : (entries : List Entry) → IsLawfulLog entries → VersionsRise 0 entries
lawful_rise entries lawful = in_order_rise 0 entries lawful.in_order

no_less : (version : ℕ) (entries : List Entry) → ComeInOrder version entries → version ≤ last_version version entries
no_less version [] order = omega arith
no_less version (entry ∷ entries) (above, lawful, order) = let rest = no_less entry.version entries order in omega (arith, above, rest)

-- one without entries holds no stores
pub none_held : IsHeldLog []
none_held = record { lawful = record { in_order = tt; replayable = tt }; holds = holds_nothing }

-- one whose last version is 0 has no entries
pub none_logged : (entries : List Entry) → IsLawfulLog entries → last_version 0 entries ≡ 0 → entries ≡ []
none_logged entries lawful zero_last = by_entries entries lawful.in_order zero_last
  where
    by_entries : (es : List Entry) → ComeInOrder 0 es → last_version 0 es ≡ 0 → es ≡ []
    by_entries [] order is = refl
    by_entries (entry ∷ es) (above, lawful_one, order) is = let least = no_less entry.version es order in absurd (omega (arith, above, least, is))

-- ---- what begins over a log

-- a schedule over an empty database begins over entries that come to version 0
pub begun_on_none : (config : Config) (image : Image) (last start : ℕ) (result : Result Followed OpenError) → last ≡ image.version → last ≡ 0 → start ≡ max config.start last → IfOk result (BeginsFollowed [] (from_version start config)) →
    IfOk result (λ followed. (entries : List Entry) → IsLogged entries image → BeginsFollowed entries (config_after entries config) followed)
begun_on_none config image last start (Err error) is_last zero_last is_start begun = tt
begun_on_none config image last start (Ok followed) is_last zero_last is_start begun = λ entries logged.
    let ends : last ≡ last_version 0 entries = is_last ∙ logged.version in
    subst₂ (λ es first. BeginsFollowed es (from_version first config) followed) (sym (none_logged entries logged.lawful (sym ends ∙ zero_last))) (is_start ∙ ap (max config.start) ends) begun

-- and one over a database over the entries that come to that
pub begun_on_some : (config : Config) (image : Image) (last start : ℕ) (result : Result Followed OpenError) → last ≡ image.version → start ≡ max config.start last →
    IfOk result (λ followed. (entries : List Entry) → IsLogged entries image → BeginsFollowed entries (from_version start config) followed) →
    IfOk result (λ followed. (entries : List Entry) → IsLogged entries image → BeginsFollowed entries (config_after entries config) followed)
begun_on_some config image last start (Err error) is_last is_start begun = tt
begun_on_some config image last start (Ok followed) is_last is_start begun = λ entries logged.
    subst (λ first. BeginsFollowed entries (from_version first config) followed) (is_start ∙ ap (max config.start) (is_last ∙ logged.version)) (begun entries logged)

-- what is replayed is lawful, and holds its stores
pub begun_on_replay : (config : Config) (log bytes : List (List ℕ)) (image : Image) (result : Result Followed OpenError) → IsReplay log image → log ≡ bytes →
    IfOk result (λ followed. (entries : List Entry) → IsLogged entries image → BeginsFollowed entries (config_after entries config) followed) → IfOk result (IsBegunAgain config bytes)
begun_on_replay config log bytes image (Err error) replayed same begun = tt
begun_on_replay config log bytes image (Ok followed) replayed same begun =
    let entries = replayed.entries in
    let logged = replayed.logged in
    record {
      entries = entries;
      written = subst (λ l. AreWrittenAs l entries) same replayed.written;
      over = record { lawful = logged.lawful; holds = subst (λ m. HoldsAll m (log_database entries).stores) logged.map logged.holds };
      follows = begun entries logged;
    }

-- over whatever it begins
pub some_on_none : (config : Config) (start : ℕ) (result : Result Followed OpenError) → IfOk result (λ followed. HasDoneFrom (first_cluster_over empty (from_version start config)) [] [] followed.schedule) → IfOk result (λ followed. IsBegunOverSome config followed.schedule)
some_on_none config start (Err error) begun = tt
some_on_none config start (Ok followed) begun = (empty, start, begun)

pub some_on_some : (config : Config) (start : ℕ) (result : Result Followed OpenError) → IfOk result (λ followed. (base : Map) × HasDoneFrom (first_cluster_over base (from_version start config)) [] [] followed.schedule) → IfOk result (λ followed. IsBegunOverSome config followed.schedule)
some_on_some config start (Err error) begun = tt
some_on_some config start (Ok followed) (base, begun) = (base, start, begun)
