-- A step whose report is lost does what one does that is reported, over plain values.
use Rattle.std.proofs.Common.{◌≡◌, ◌∙◌, ℕ, ◌+◌, ◌<◌, ◌≤◌, ◌&&◌, Bool, true, false, cond, List, [], ◌∷◌, ◌++◌, length, get_or, ap, refl, sym, subst, arith, nat_lt}
use Rattle.std.specs.List.{list_all}
use Rattle.std.proofs.lemmas.Bool.{ltb-true, true≢false}
use Rattle.kv_core.specs.declared.change.CommitRequest.{CommitRequest}
use Rattle.cluster_core.specs.declared.answers.Reported.{Reported}
use Rattle.cluster_core.specs.declared.answers.Reported.TheVariants.{Committed, Conflict, NothingToDo}
use Rattle.cluster_core.specs.Cluster.{ClusterState, with_pipeline}
use Rattle.cluster_core.specs.Roles.{AreInOrder, PipelineState, may_report, outcome, report, submitted, whole}
use Rattle.schedule.specs.declared.reply.Reply.{Reply}
use Rattle.schedule.specs.declared.reply.Reply.TheVariants as answers
use Rattle.schedule.specs.declared.reply.Report as telling
use Rattle.schedule.specs.declared.reply.Report.TheVariants as tells
use Rattle.schedule.specs.declared.step.Step.{Step}
use Rattle.schedule.specs.declared.step.Step.TheVariants as steps
use Rattle.schedule.specs.Contract.{EachReply, client_of, lost_reply, past_of, report_reply, report_to, reports_reply}
use Rattle.schedule.specs.Exact.{IsReplyTo}
use Rattle.schedule.specs.Headline.{WasOpen}
use Rattle.schedule.specs.Past.{Open, Past, Submission, submitted_in}
use Rattle.schedule.specs.Running.{AreKept, IsStillOpen, StandsAfter}
use Rattle.schedule.specs.Standing.{cluster_from, is_reported}
use Rattle.schedule.specs.Stepwise.{DoesNext, HasDoneFrom, StepwiseState}
use Rattle.schedule.proofs.Growing.{each_reply_append, past_of_append}
use Rattle.schedule.proofs.RoleSteps.{log_given}
use Rattle.logged_schedule.specs.Runs.{done_as, lost, told_as}
use Rattle.logged_schedule.proofs.Longer.{each_reply_last}
use Rattle.logged_schedule.proofs.Versions.{some_outcome}

-- ---- which requests are forgotten says nothing of the clocks

pub whole_ordered : (p : PipelineState) → AreInOrder p → AreInOrder (whole p)
whole_ordered p ordered = record {
  some_resolver = ordered.some_resolver;
  some_log = ordered.some_log;
  given = ordered.given;
  answered = ordered.answered;
  appended = ordered.appended;
  versions = ordered.versions;
}

-- ---- what is reported is something

-- the first clock is past one that all are past
first_passes : (clock : ℕ) (clocks : List ℕ) → 0 < length clocks → list_all (λ other. nat_lt clock other) clocks ≡ true → clock < get_or clocks 0 0
first_passes clock [] some all = absurd (omega (arith, some))
first_passes clock (first ∷ others) some all = by_test (nat_lt clock first) refl all
  where
    by_test : (b : Bool) → nat_lt clock first ≡ b → (b && list_all (λ other. nat_lt clock other) others) ≡ true → clock < first
    by_test true is rest = ltb-true clock first is
    by_test false is rest = absurd (true≢false (sym rest))

given_next : (p : PipelineState) → AreInOrder p → may_report p ≡ true → p.reported + 1 ≤ submitted p
given_next p ordered may =
    let some : 0 < length p.logged = (let h : 1 ≤ length p.logged = ordered.some_log in omega (arith, h)) in
    let passed : p.reported < get_or p.logged 0 0 = first_passes p.reported p.logged some may in
    let given : get_or p.logged 0 0 ≤ submitted p = log_given p 0 ordered some in
    omega (arith, passed, given)

-- ---- the reply

-- what is told where the report is lost is right, and tells of a report where the reply does
record IsLost (p : PipelineState) (subs : List Submission) (reply : Reply) : Type 0 where
  pub right : told_as steps.Lost reply ≡ lost_reply p subs
  pub reported : is_reported (told_as steps.Lost reply) ≡ is_reported reply

is_lost : (p : PipelineState) (subs : List Submission) (reply : Reply) → reply ≡ report_reply p subs → (may_report p ≡ true → outcome p (p.reported + 1) ≡ NothingToDo → reply ≡ answers.Nothing → ⊥) → IsLost p subs reply
is_lost p subs reply is never = by_test (may_report p) refl
  where
    client : ℕ
    client = client_of subs (p.reported + 1)

    told_by : (o : Reported) → may_report p ≡ true → outcome p (p.reported + 1) ≡ o → reply ≡ reports_reply (report_to client o ++ [])
    told_by o may e = is ∙ (λ i. cond (may i) (reports_reply (report_to client (e i) ++ [])) answers.Nothing)

    one : (told_one : telling.Report) → may_report p ≡ true → reply ≡ answers.Reported (told_one ∷ []) → lost told_one ≡ tells.Unknown client → IsLost p subs reply
    one told_one may same hidden = record {
      right = ap (told_as steps.Lost) same ∙ ap (λ r. answers.Reported (r ∷ [])) hidden ∙ sym (ap (λ b. cond b (answers.Reported (tells.Unknown client ∷ [])) answers.Nothing) may);
      reported = ap (λ r. is_reported (told_as steps.Lost r)) same ∙ sym (ap is_reported same);
    }

    by_outcome : (o : Reported) → may_report p ≡ true → outcome p (p.reported + 1) ≡ o → IsLost p subs reply
    by_outcome (Committed version) may e = one (tells.Committed client version) may (told_by (Committed version) may e) refl
    by_outcome (Conflict seen range) may e = one (tells.Conflict client seen range) may (told_by (Conflict seen range) may e) refl
    by_outcome NothingToDo may e = absurd (never may e (told_by NothingToDo may e))

    by_test : (b : Bool) → may_report p ≡ b → IsLost p subs reply
    by_test true may = by_outcome (outcome p (p.reported + 1)) may refl
    by_test false may =
        let same : reply ≡ answers.Nothing = is ∙ ap (λ b. cond b (reports_reply (report_to client (outcome p (p.reported + 1)) ++ [])) answers.Nothing) may in
        record {
          right = ap (told_as steps.Lost) same ∙ sym (ap (λ b. cond b (answers.Reported (tells.Unknown client ∷ [])) answers.Nothing) may);
          reported = ap (λ r. is_reported (told_as steps.Lost r)) same ∙ sym (ap is_reported same);
        }

-- ---- the step

lost_next : (reply : Reply) (before after : StepwiseState) → AreInOrder after.database.cluster.pipeline → DoesNext steps.Report reply before after → DoesNext steps.Lost (told_as steps.Lost reply) before after
lost_next reply before after ordered next first done_steps replies done = (
  record {
    right = λ more. each_reply_append (R more) [] done_steps replies steps.Lost hidden (each more).0 (is more).right;
    cluster = λ more.
        ap (cluster_from first (full more)) there ∙ ap (λ b. cond b (with_pipeline (report (c more).pipeline) (c more)) (c more)) (is more).reported ∙ sym (ap (cluster_from first (full more)) here)
        ∙ longer.0.cluster more;
    stands = subst (λ p. StandsAfter p after.database) (sym there) stood;
    opened =
        subst (λ p. (transaction : Open) → WasOpen p transaction → IsStillOpen after.database.cluster transaction) (sym there)
        (subst (λ p. (transaction : Open) → WasOpen p transaction → IsStillOpen after.database.cluster transaction) here longer.0.opened);
  },
  subst (λ p. AreKept p after.plans) (sym there) (subst (λ p. AreKept p after.plans) here longer.1),
)
  where
    hidden : Reply
    hidden = told_as steps.Lost reply

    past : Past
    past = past_of [] done_steps replies

    longer : HasDoneFrom first (done_steps ++ steps.Report ∷ []) (replies ++ reply ∷ []) after
    longer = next first done_steps replies done

    full : List CommitRequest → List CommitRequest
    full more = after.database.cluster.pipeline.requests ++ more

    c : List CommitRequest → ClusterState
    c more = cluster_from first (full more) past

    R : List CommitRequest → Past → Step → Reply → Type 0
    R more so_far one answer = IsReplyTo (cluster_from first (full more) so_far) so_far one answer

    S : Past → Step → Reply → Type 0
    S so_far one answer = IsReplyTo (cluster_from first (before.database.cluster.pipeline.requests ++ []) so_far) so_far one answer

    here : past_of [] (done_steps ++ steps.Report ∷ []) (replies ++ reply ∷ []) ≡ (steps.Report, reply) ∷ past
    here = past_of_append S [] done_steps replies steps.Report reply (done.0.right [])

    there : past_of [] (done_steps ++ steps.Lost ∷ []) (replies ++ hidden ∷ []) ≡ (steps.Lost, hidden) ∷ past
    there = past_of_append S [] done_steps replies steps.Lost hidden (done.0.right [])

    stood : StandsAfter ((steps.Report, reply) ∷ past) after.database
    stood = subst (λ p. StandsAfter p after.database) here longer.0.stands

    each : (more : List CommitRequest) → EachReply (R more) [] done_steps replies × R more past steps.Report reply
    each more = each_reply_last (R more) S [] done_steps replies steps.Report reply (done.0.right []) (longer.0.right more)

    -- where nothing was reported, the cluster stays, and so it had nothing to report
    never : (more : List CommitRequest) → may_report (c more).pipeline ≡ true → outcome (c more).pipeline ((c more).pipeline.reported + 1) ≡ NothingToDo → reply ≡ answers.Nothing → ⊥
    never more may nothing idle =
        let moved : cond (is_reported reply) (with_pipeline (report (c more).pipeline) (c more)) (c more) ≡ after.database.cluster = sym (ap (cluster_from first (full more)) here) ∙ longer.0.cluster more in
        let same : c more ≡ after.database.cluster = sym (ap (λ r. cond (is_reported r) (with_pipeline (report (c more).pipeline) (c more)) (c more)) idle) ∙ moved in
        let p = after.database.cluster.pipeline in
        let can : may_report p ≡ true = subst (λ (k : ClusterState). may_report k.pipeline ≡ true) same may in
        some_outcome p (p.reported + 1) (let from : p.start ≤ p.reported = stood.begun in omega (arith, from)) (given_next p ordered can) (subst (λ (k : ClusterState). outcome k.pipeline (k.pipeline.reported + 1) ≡ NothingToDo) same nothing)

    is : (more : List CommitRequest) → IsLost (c more).pipeline (submitted_in past) reply
    is more = is_lost (c more).pipeline (submitted_in past) reply (each more).1 (never more)

-- so a step is done, whatever it is
pub told_next : (step : Step) (reply : Reply) (before after : StepwiseState) → AreInOrder after.database.cluster.pipeline → DoesNext (done_as step) reply before after → DoesNext step (told_as step reply) before after
told_next (steps.Begin client store) reply before after ordered next = next
told_next (steps.Perform client command) reply before after ordered next = next
told_next (steps.Execute client) reply before after ordered next = next
told_next (steps.Commit client) reply before after ordered next = next
told_next (steps.Abandon client) reply before after ordered next = next
told_next (steps.Resolve r) reply before after ordered next = next
told_next (steps.Log l) reply before after ordered next = next
told_next (steps.Pull s) reply before after ordered next = next
told_next steps.Report reply before after ordered next = next
told_next steps.Lost reply before after ordered next = lost_next reply before after ordered next
told_next steps.Settle reply before after ordered next = next
