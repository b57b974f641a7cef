-- How what waits and what was logged stand beside a pipeline, over plain values.
use Rattle.std.proofs.Common.{◌≡◌, ◌∙◌, ℕ, zero, suc, ◌+◌, ◌-◌, ◌<◌, ◌≤◌, cond, List, [], ◌∷◌, ◌++◌, length, take, drop, get_or, ap, refl, sym, subst, arith}
use Rattle.std.specs.Prelude.{map}
use Rattle.std.specs.List.{filter, range_with_len}
use Rattle.std.proofs.lemmas.List.{drop-append-le, drop-drop, length-append, map-append, take-append-le, take_more}
use Rattle.std.proofs.lemmas.List.Elements.{filter-append}
use Rattle.std.proofs.Math.Seq.{take-add}
use Rattle.kv_core.specs.declared.change.CommitRequest.{CommitRequest}
use Rattle.cluster_core.specs.Roles.{PipelineState, submit, submitted}
use Rattle.schedule.specs.declared.reply.Reply.{Reply}
use Rattle.schedule.specs.declared.reply.Reply.TheVariants as answers
use Rattle.schedule.specs.declared.reply.Report.{Report}
use Rattle.schedule.specs.declared.step.Step.{Step}
use Rattle.schedule.specs.declared.step.Step.TheVariants as steps
use Rattle.schedule.specs.Contract.{reports_of}
use Rattle.schedule.specs.Past.{Past, Submission, open_of, submission, submitted_in}
use Rattle.schedule.specs.Standing.{is_told, with_next}
use Rattle.schedule.proofs.ReportSteps.{slice_some}
use Rattle.schedule.proofs.Submitting.{AreVersioned, outcome_stays}
use Rattle.logged_schedule.specs.Entries.{logged_as, logged_in, told_first, waiting_in}
use Rattle.logged_schedule.proofs.Versions.{told_so, versions_more, versions_left, tells}

-- ---- what stands after steps

-- beside the pipeline that steps have led to: what waits is what isn't reported, and what was logged is what is told to
-- be committed of the others
pub record IsEven (R : List CommitRequest) (p : PipelineState) (past : Past) : Type 0 where
  pub requests : p.requests ≡ take (length (submitted_in past)) R
  pub versions : AreVersioned p.start (submitted_in past)
  pub begun : p.start ≤ p.reported
  pub given : p.reported ≤ p.start + length (submitted_in past)
  pub waits : waiting_in past ≡ drop (p.reported - p.start) (submitted_in past)
  pub logs : logged_in past ≡ map logged_as (filter (told_so p) (take (p.reported - p.start) (submitted_in past)))

pub take_short : {X : Type 0} (n : ℕ) (xs : List X) → length (take n xs) ≤ n
take_short zero xs = omega arith
take_short (suc n) [] = omega arith
take_short (suc n) (x ∷ xs) = let rest : length (take n xs) ≤ n = take_short n xs in omega (arith, rest)

take_full : {X : Type 0} (n : ℕ) (xs : List X) → n ≤ length xs → length (take n xs) ≡ n
take_full zero xs within = refl
take_full (suc n) [] within = absurd (omega (arith, within))
take_full (suc n) (x ∷ xs) within = ap suc (take_full n xs (omega (arith, within)))

pub short_requests : (R : List CommitRequest) (p : PipelineState) (past : Past) → IsEven R p past → length p.requests ≤ length (submitted_in past)
short_requests R p past even = subst (λ rs. length rs ≤ length (submitted_in past)) (sym even.requests) (take_short (length (submitted_in past)) R)

pub full_requests : (R : List CommitRequest) (p : PipelineState) (past : Past) → IsEven R p past → length (submitted_in past) ≤ length R → length p.requests ≡ length (submitted_in past)
full_requests R p past even within = ap length even.requests ∙ take_full (length (submitted_in past)) R within

-- so many versions more are reported
pub record IsToldMore (p : PipelineState) (past : Past) (m : ℕ) (reports : List Report) : Type 0 where
  pub count : length reports ≡ m
  pub waits : drop (length reports) (waiting_in past) ≡ drop (p.reported + m - p.start) (submitted_in past)
  pub logs : logged_in past ++ map logged_as (told_first reports (waiting_in past)) ≡ map logged_as (filter (told_so p) (take (p.reported + m - p.start) (submitted_in past)))

pub drop_length : {X : Type 0} (n : ℕ) (xs : List X) → length (drop n xs) ≡ length xs - n
drop_length zero xs = omega arith
drop_length (suc n) [] = omega arith
drop_length (suc n) (x ∷ xs) = drop_length n xs ∙ omega arith

pub told_more : (p : PipelineState) (R : List CommitRequest) (past : Past) → IsEven R p past → (m : ℕ) → length (submitted_in past) ≤ length R → p.reported + m ≤ p.start + length (submitted_in past) →
    IsToldMore p past m (reports_of p (submitted_in past) (range_with_len (p.reported + 1) m))
told_more p R past even m within upto = record {
  count = are.1;
  waits = (λ i. drop (are.1 i) (even.waits i)) ∙ drop-drop m k subs ∙ ap (λ n. drop n subs) sum;
  logs =
      (λ i. even.logs i ++ map logged_as (told_first reports (even.waits i))) ∙ ap (λ ss. map logged_as (filter (told_so p) (take k subs)) ++ map logged_as ss) are.0
      ∙ sym (map-append logged_as (filter (told_so p) (take k subs)) (filter (told_so p) (take m (drop k subs))))
      ∙ ap (map logged_as) (sym (filter-append (told_so p) (take k subs) (take m (drop k subs))) ∙ ap (filter (told_so p)) (sym (take-add k m subs) ∙ ap (λ n. take n subs) sum));
}
  where
    subs : List Submission
    subs = submitted_in past

    k : ℕ
    k = p.reported - p.start

    reports : List Report
    reports = reports_of p subs (range_with_len (p.reported + 1) m)

    from : p.start ≤ p.reported
    from = even.begun

    sum : k + m ≡ p.reported + m - p.start
    sum = omega (arith, from)

    full : length p.requests ≡ length subs
    full = full_requests R p past even within

    left : length (drop k subs) ≡ length subs - k
    left = drop_length k subs

    here : p.start + k ≡ p.reported
    here = omega (arith, from)

    are : (told_first reports (drop k subs) ≡ filter (told_so p) (take m (drop k subs))) × (length reports ≡ m)
    are = tells p subs p.reported m (drop k subs) (subst (λ v. AreVersioned v (drop k subs)) here (versions_left p.start k subs even.versions)) from (omega (arith, left, upto, from)) (omega (arith, upto, full))

-- ---- one more submission

told_stays : (p : PipelineState) (request : CommitRequest) (last k : ℕ) (subs : List Submission) → AreVersioned last subs → p.start ≤ last → last + k ≤ submitted p → filter (told_so (submit request p)) (take k subs) ≡ filter (told_so p) (take k subs)
told_stays p request last zero subs are from upto = refl
told_stays p request last (suc k) [] are from upto = refl
told_stays p request last (suc k) (one ∷ subs) are from upto =
    let at : one.version ≡ last + 1 = are.0 in
    let same : told_so (submit request p) one ≡ told_so p one = ap is_told (outcome_stays p request one.version (omega (arith, at, from)) (omega (arith, at, upto))) in
    let rest = told_stays p request (last + 1) k subs are.1 (omega (arith, from)) (omega (arith, upto)) in
    λ i. cond (same i) (one ∷ rest i) (rest i)

pub grows_once : (step : Step) (reply : Reply) (past : Past) → length (submitted_in past) ≤ length (submitted_in ((step, reply) ∷ past))
grows_once (steps.Begin client store) reply past = omega arith
grows_once (steps.Perform client command) reply past = omega arith
grows_once (steps.Execute client) reply past = omega arith
grows_once (steps.Abandon client) reply past = omega arith
grows_once (steps.Resolve r) reply past = omega arith
grows_once (steps.Log l) reply past = omega arith
grows_once (steps.Pull s) reply past = omega arith
grows_once steps.Report reply past = omega arith
grows_once steps.Lost reply past = omega arith
grows_once steps.Settle reply past = omega arith
grows_once (steps.Commit client) (answers.Begun v) past = omega arith
grows_once (steps.Commit client) answers.Done past = omega arith
grows_once (steps.Commit client) answers.SavedNew past = omega arith
grows_once (steps.Commit client) (answers.SavedOver cells) past = omega arith
grows_once (steps.Commit client) (answers.Found cells) past = omega arith
grows_once (steps.Commit client) answers.Absent past = omega arith
grows_once (steps.Commit client) answers.Removed past = omega arith
grows_once (steps.Commit client) (answers.Rows rows) past = omega arith
grows_once (steps.Commit client) (answers.Planned plan) past = omega arith
grows_once (steps.Commit client) (answers.Indexed state) past = omega arith
grows_once (steps.Commit client) (answers.State state) past = omega arith
grows_once (steps.Commit client) (answers.Total total) past = omega arith
grows_once (steps.Commit client) (answers.Built records range) past = omega arith
grows_once (steps.Commit client) answers.Finished past = omega arith
grows_once (steps.Commit client) answers.ReadOnly past = omega arith
grows_once (steps.Commit client) answers.Nothing past = omega arith
grows_once (steps.Commit client) (answers.Reported reports) past = omega arith
grows_once (steps.Commit client) (answers.Refused refusal) past = omega arith
grows_once (steps.Commit client) (answers.Corrupt key) past = omega arith
grows_once (steps.Commit client) answers.Stopped past = omega arith
grows_once (steps.Commit client) (answers.Submitted v) past = let n : length (submitted_in past ++ submission client v (open_of client past)) ≡ length (submitted_in past) + length (submission client v (open_of client past)) = length-append (submitted_in past) (submission client v (open_of client past)) in omega (arith, n)

-- the next request is that of the whole schedule
pub next_request : (R : List CommitRequest) (p : PipelineState) (past : Past) → IsEven R p past → length (submitted_in past) < length R → (request : CommitRequest) × (with_next R p ≡ submit request p)
next_request R p past even within = (
  request,
  ap (λ (rs : List CommitRequest). record p { requests = rs })
      (ap (λ n. take (n + 1) R) (full_requests R p past even (omega (arith, within))) ∙ take_more R (length (submitted_in past)) some within ∙ ap (λ rs. rs ++ request ∷ []) (sym even.requests)),
)
  where
    some : CommitRequest
    some = (slice_some R (length (submitted_in past)) within).0

    request : CommitRequest
    request = get_or R (length (submitted_in past)) some

pub even_submitted : (R : List CommitRequest) (p : PipelineState) (past longer : Past) (new : Submission) → submitted_in longer ≡ submitted_in past ++ new ∷ [] → waiting_in longer ≡ waiting_in past ++ new ∷ [] → logged_in longer ≡ logged_in past → new.version ≡ submitted p + 1 →
    length (submitted_in past ++ new ∷ []) ≤ length R → IsEven R p past → IsEven R (with_next R p) longer
even_submitted R p past longer new subs_now waits_now logs_now at room even = record {
  requests = ap (λ n. take n R) (let n : length p.requests + 1 ≡ length (submitted_in longer) = omega (arith, full, now) in n);
  versions = subst (AreVersioned p.start) (sym subs_now) (versions_more p.start subs new even.versions (omega (arith, at, full)));
  begun = even.begun;
  given = omega (arith, now, given);
  waits = waits_now ∙ ap (λ ss. ss ++ new ∷ []) even.waits ∙ sym (drop-append-le k subs (new ∷ []) inside) ∙ ap (drop k) (sym subs_now);
  logs =
      logs_now ∙ even.logs
      ∙ ap (map logged_as)
      (sym (told_stays p request p.start k subs even.versions (omega arith) (omega (arith, full, inside))) ∙ ap (λ q. filter (told_so q) (take k subs)) (sym grown)
      ∙ ap (filter (told_so (with_next R p))) (sym (take-append-le k subs (new ∷ []) inside) ∙ ap (take k) (sym subs_now)));
}
  where
    subs : List Submission
    subs = submitted_in past

    one_more : length (subs ++ new ∷ []) ≡ length subs + 1
    one_more = length-append subs (new ∷ [])

    k : ℕ
    k = p.reported - p.start

    now : length (submitted_in longer) ≡ length subs + 1
    now = ap length subs_now ∙ one_more

    within : length subs < length R
    within = omega (arith, one_more, room)

    full : length p.requests ≡ length subs
    full = full_requests R p past even (omega (arith, within))

    given : p.reported ≤ p.start + length subs
    given = even.given

    inside : k ≤ length subs
    inside = omega (arith, given)

    next : (request : CommitRequest) × (with_next R p ≡ submit request p)
    next = next_request R p past even within

    request : CommitRequest
    request = next.0

    grown : with_next R p ≡ submit request p
    grown = next.1
