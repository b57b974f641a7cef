-- What the pipeline makes of a request that comes next.
use Rattle.std.proofs.Common.{◌≡◌, ℕ, ◌+◌, ◌-◌, ◌<◌, ◌≤◌, ◌^◌, Bool, true, false, cond, is_none, nat_lt, Option, None, Some, List, [], ◌∷◌, ◌++◌, length, refl, sym, ap, ◌∙◌, subst, arith, length-append, true≢false}
use Rattle.std.proofs.lemmas.Bool.Decides.{nat_tests}
use Rattle.kv_core.specs.declared.change.CommitRequest.{CommitRequest}
use Rattle.runtime.specs.Origins.{Origin}
use Rattle.cluster_core.specs.declared.answers.Reported.{Reported}
use Rattle.cluster_core.specs.declared.answers.Reported.TheVariants as reported
use Rattle.cluster_core.specs.declared.answers.SubmitError.{SubmitError}
use Rattle.cluster_core.specs.declared.answers.SubmitError.TheVariants.{TooOld, VersionsExhausted}
use Rattle.cluster_core.specs.Decision.{Cause, cause, numbered}
use Rattle.cluster_core.specs.Cluster.{without_servers}
use Rattle.cluster_core.specs.Configuration.{first_pipeline}
use Rattle.cluster_core.specs.Roles.{PipelineState, all_handled, is_caught_up, outcome, submit, submit_refusal, submitted, told, whole}
use Rattle.cluster_core.proofs.Growth.{later_changes_nothing}
use Rattle.commits.specs.Holds.{HeldError, first_raised, verdict}
use Rattle.commits.specs.declared.commit.HoldError.TheVariants as holds
use Rattle.runtime.specs.declared.log_entry.Entry.{Entry}
use Rattle.runtime.specs.History.{Name}
use Rattle.runtime.specs.Logs.{requests_of, version_of, pipeline_of, cause_next, IsWellFormedLog, IsOpenOver}
use Rattle.runtime.specs.Logs.{count_of, is_numbered}
use Rattle.runtime.proofs.Entries.{requests_append}
use Rattle.std.specs.Prelude.{slice_index, slice_set, is_some}
use mathlib.Core.List.{IsPrefix}
use Rattle.runtime.specs.declared.in_flight.Due.{Due}
use Rattle.runtime.specs.declared.in_flight.InFlight.TheVariants.{Unreported}
use Rattle.runtime.specs.CommitStates.{IsInFlight, IsRecorded, decided_due, due_of}
use Rattle.commits.specs.Finishing.{HasGoneOn}
use Rattle.runtime.specs.History.{submitted_entry}
use Rattle.commits.proofs.GoingOn.{handled_same, raised_length, still_unfinished}
use Rattle.commits.proofs.Handling.{outcome-last}
use Rattle.runtime.proofs.WellFormed.{pipeline_next, lawful_next, open_begins, numbered_more}

-- what is told of a request once the roles have handled it
pub told_next : (origin : Origin) (log : List Entry) (e : Entry) → verdict e.request (pipeline_of origin (log ++ e ∷ [])) ≡ told (cause_next origin log e.request) (version_of origin log + 1)
told_next origin log e =
    let at : origin.config.start + length (requests_of (log ++ e ∷ [])) ≡ version_of origin log + 1 = omega (arith, ap length (requests_append log (e ∷ [])), length-append (requests_of log) (e.request ∷ [])) in
    (λ i. told (cause origin.config.resolver_splits (numbered origin.config.start (requests_append log (e ∷ []) i)) (record { version = at i; request = e.request })) (at i))
    ∙ ap (λ why. told why (version_of origin log + 1)) (later_changes_nothing origin.config.resolver_splits origin.config.start (requests_of log) e.request (record { version = version_of origin log + 1; request = e.request }) (omega arith))

pub commit_next : (origin : Origin) (log : List Entry) (e : Entry) (p q : PipelineState) (r : Reported) → p ≡ pipeline_of origin log → q ≡ all_handled (submit e.request p) → r ≡ verdict e.request q →
    (q ≡ pipeline_of origin (log ++ e ∷ [])) × (r ≡ told (cause_next origin log e.request) (version_of origin log + 1))
commit_next origin log e p q r old new is =
    let next : q ≡ pipeline_of origin (log ++ e ∷ []) = new ∙ ap (λ (s : PipelineState). all_handled (submit e.request s)) old ∙ pipeline_next origin log e in
    (next, is ∙ ap (verdict e.request) next ∙ told_next origin log e)

-- its entry is due whatever was reported
pub due_decided : (r : Reported) (due : Due) (log : List Entry) → due_of (decided_due r due) log ≡ log ++ submitted_entry due.submitted ∷ []
due_decided (reported.Committed version) due log = refl
due_decided (reported.Conflict seen range) due log = refl
due_decided reported.NothingToDo due log = refl

-- a submission that comes next, of which this was reported
pub decided_is : (n : Name) (log : List Entry) (due : Due) (q : PipelineState) (r : Reported) (why : Option Cause) (version : ℕ) → r ≡ told why version →
    due.mutations ≡ due.submitted.request.value.mutations → q ≡ pipeline_of n.origin (log ++ submitted_entry due.submitted ∷ []) → IsWellFormedLog n.origin (log ++ submitted_entry due.submitted ∷ []) →
    cause_next n.origin log due.submitted.request.value ≡ why → version ≡ version_of n.origin log + 1 → IsRecorded n log due → IsInFlight n log q (decided_due r due)
decided_is n log due q r None version is own handled law cause at recorded =
    let told_so : cause_next n.origin log due.submitted.request.value ≡ None = cause in
    subst (λ (t : Reported). IsInFlight n log q (decided_due t due)) (sym is) (
      handled,
      own ∙ sym (ap (λ why. cond (is_none why) due.submitted.request.value.mutations []) told_so),
      at ∙ sym (ap (λ why. cond (is_none why) (version_of n.origin log + 1) 0) told_so),
      law,
      recorded,
    )
decided_is n log due q r (Some why) version is own handled law cause at recorded =
    subst (λ (t : Reported). IsInFlight n log q (decided_due t due)) (sym is) (
      handled,
      sym (ap (λ why. cond (is_none why) due.submitted.request.value.mutations []) cause),
      sym (ap (λ why. cond (is_none why) (version_of n.origin log + 1) 0) cause),
      law,
      recorded,
    )

-- there was a version for it
room_by : (a b : Bool) → cond a (cond b (Some TooOld) None) (Some VersionsExhausted) ≡ None → a ≡ true
room_by true b h = refl
room_by false b h = cc

pub room_next : (origin : Origin) (log : List Entry) (p : PipelineState) (read_version : ℕ) → p ≡ pipeline_of origin log → submit_refusal p read_version ≡ None → version_of origin log + 1 < 2 ^ 64
room_next origin log p read_version is allowed =
    let room : nat_lt (submitted p + 1) (2 ^ 64) ≡ true = room_by (nat_lt (submitted p + 1) (2 ^ 64)) (nat_lt p.window (submitted p - read_version)) allowed in
    let at : submitted p ≡ version_of origin log = ap submitted is in
    let lt : submitted p + 1 < 2 ^ 64 = grind (arith, nat_tests) in
    omega (arith, lt, at)

none_by : (o : Option SubmitError) → is_some o ≡ false → o ≡ None
none_by None h = refl
none_by (Some e) h = absurd (true≢false h)

-- why it was refused
refused_by : (window room : ℕ) (a b : Bool) (e : SubmitError) → cond a (cond b (Some TooOld) None) (Some VersionsExhausted) ≡ Some e → (e ≡ TooOld → b ≡ true) × (e ≡ VersionsExhausted → a ≡ false)
refused_by window room true true e h = ((λ is. refl), (λ is. absurd (cc (h, is))))
refused_by window room true false e h = absurd (cc)
refused_by window room false b e h = ((λ is. absurd (cc (h, is))), (λ is. refl))

pub refused_old : (origin : Origin) (log : List Entry) (p : PipelineState) (read_version : ℕ) → p ≡ pipeline_of origin log → submit_refusal p read_version ≡ Some TooOld → origin.config.window < version_of origin log - read_version
refused_old origin log p read_version is why =
    let late : nat_lt p.window (submitted p - read_version) ≡ true = (refused_by 0 0 (nat_lt (submitted p + 1) (2 ^ 64)) (nat_lt p.window (submitted p - read_version)) TooOld why).0 refl in
    let lt : p.window < submitted p - read_version = grind (arith, nat_tests) in
    subst (λ (s : PipelineState). s.window < submitted s - read_version) is lt

pub refused_last : (origin : Origin) (log : List Entry) (p : PipelineState) (read_version : ℕ) → p ≡ pipeline_of origin log → version_of origin log < 2 ^ 64 → submit_refusal p read_version ≡ Some VersionsExhausted → version_of origin log ≡ 2 ^ 64 - 1
refused_last origin log p read_version is below why =
    let none : nat_lt (submitted p + 1) (2 ^ 64) ≡ false = (refused_by 0 0 (nat_lt (submitted p + 1) (2 ^ 64)) (nat_lt p.window (submitted p - read_version)) VersionsExhausted why).1 refl in
    let ge : 2 ^ 64 ≤ submitted p + 1 = grind (arith, nat_tests) in
    let at : submitted p ≡ version_of origin log = ap submitted is in
    omega (arith, ge, at, below)

-- ---- the locked state after a request was reported

abbrev pub Taken : Name → List ℕ → List Entry → PipelineState → Reported → Due → Type 0
Taken n last log q r due =
    IsInFlight n log q (decided_due r due)
    × (is_numbered (slice_set last due.submitted.client due.submitted.number) (log ++ submitted_entry due.submitted ∷ []) ≡ true)

pub taken_next : (n : Name) (last : List ℕ) (log prefix : List Entry) (due : Due) (request : CommitRequest) (p q : PipelineState) (r : Reported) →
    IsWellFormedLog n.origin log → IsPrefix prefix log → IsOpenOver n.origin prefix request due.submitted.trace → due.submitted.request.value ≡ request → is_numbered last log ≡ true → due.submitted.client < length last →
    slice_index last due.submitted.client < due.submitted.number → due.submitted.number ≡ count_of due.submitted.client log + 1 →
    p ≡ pipeline_of n.origin log → q ≡ all_handled (submit request p) → r ≡ verdict request q → is_some (submit_refusal p request.read_version) ≡ false → due.mutations ≡ request.mutations → IsRecorded n log due →
    Taken n last log q r due
taken_next n last log prefix due request p q r law begins over same num inside above turn old new told_so allowed copied recorded =
    let e : Entry = submitted_entry due.submitted in
    let over_it : IsOpenOver n.origin prefix e.request e.trace = subst (λ (v : CommitRequest). IsOpenOver n.origin prefix v due.submitted.trace) (sym same) over in
    let handled : q ≡ all_handled (submit e.request p) = new ∙ ap (λ (v : CommitRequest). all_handled (submit v p)) (sym same) in
    let verdict_is : r ≡ verdict e.request q = told_so ∙ ap (λ (v : CommitRequest). verdict v q) (sym same) in
    let next = commit_next n.origin log e p q r old handled verdict_is in
    let room : version_of n.origin log + 1 < 2 ^ 64 = room_next n.origin log p request.read_version old (none_by (submit_refusal p request.read_version) allowed) in
    let more : IsWellFormedLog n.origin (log ++ e ∷ []) = lawful_next n.origin last log e law (open_begins n.origin prefix log e begins over_it) num above turn room in (
      decided_is n log due q r (cause_next n.origin log e.request) (version_of n.origin log + 1) next.1 (copied ∙ ap (λ (v : CommitRequest). v.mutations) (sym same)) next.0 more refl refl recorded,
      numbered_more last due.submitted.client due.submitted.number log e inside above refl refl num,
    )

-- ---- a submission that isn't reported

-- what is told of the last entry of a log, once every role has handled it
told_last : (origin : Origin) (log : List Entry) (e : Entry) → let p = pipeline_of origin (log ++ e ∷ []) in outcome p (submitted p) ≡ told (cause_next origin log e.request) (version_of origin log + 1)
told_last origin log e =
    let base = λ (qs : List CommitRequest). all_handled (record (first_pipeline origin.config) { requests = qs }) in
    let last : outcome (base (requests_of log ++ e.request ∷ [])) (submitted (base (requests_of log ++ e.request ∷ []))) ≡ verdict e.request (base (requests_of log ++ e.request ∷ [])) = outcome-last (record (base (requests_of log ++ e.request ∷ [])) { requests = requests_of log }) e.request in
    subst (λ (qs : List CommitRequest). outcome (base qs) (submitted (base qs)) ≡ verdict e.request (base qs)) (sym (requests_append log (e ∷ []))) last
    ∙ told_next origin log e

-- it is reported
pub due_reported : (n : Name) (log : List Entry) (due : Due) (p q : PipelineState) (r : Reported) → IsInFlight n log p (Unreported due) → q ≡ all_handled p → r ≡ outcome q (submitted q) → IsInFlight n log q (decided_due r due)
due_reported n log due p q r was new is =
    let e : Entry = submitted_entry due.submitted in
    let next : q ≡ pipeline_of n.origin (log ++ e ∷ []) = new ∙ was.1 in
    let told_so : r ≡ told (cause_next n.origin log e.request) (version_of n.origin log + 1) = is ∙ ap (λ (s : PipelineState). outcome s (submitted s)) next ∙ told_last n.origin log e in
    decided_is n log due q r (cause_next n.origin log e.request) (version_of n.origin log + 1) told_so was.2 next was.3 refl refl was.4

-- some more roles have handled it
pub due_further : (n : Name) (log : List Entry) (due : Due) (p q : PipelineState) → IsInFlight n log p (Unreported due) → HasGoneOn p q → IsInFlight n log q (Unreported due)
due_further n log due p q was on = (still_unfinished p q was.0 on, on.0 ∙ was.1, was.2, was.3, was.4)

abbrev pub Held : Name → List ℕ → List Entry → PipelineState → Due → Type 0
Held n last log q due =
    IsInFlight n log q (Unreported due)
    × (is_numbered (slice_set last due.submitted.client due.submitted.number) (log ++ submitted_entry due.submitted ∷ []) ≡ true)

-- what is kept as bytes doesn't matter
pub held_whole : (request : CommitRequest) (p q : PipelineState) → HeldError holds.Unknown request (without_servers p) (without_servers q) →
    HeldError holds.Unknown request (without_servers (whole p)) (without_servers (whole q))
held_whole request p q held =
    let at = held.1.2 in
    (held.0, (held.1.0, held.1.1, record { stands = ap whole at.stands; some_resolvers = at.some_resolvers; some_logs = at.some_logs; in_order = at.in_order }), refl)

-- memory ran out after it was submitted
pub held_next : (n : Name) (last : List ℕ) (log prefix : List Entry) (due : Due) (request : CommitRequest) (p q : PipelineState) →
    IsWellFormedLog n.origin log → IsPrefix prefix log → IsOpenOver n.origin prefix request due.submitted.trace → due.submitted.request.value ≡ request → is_numbered last log ≡ true → due.submitted.client < length last →
    slice_index last due.submitted.client < due.submitted.number → due.submitted.number ≡ count_of due.submitted.client log + 1 →
    p ≡ pipeline_of n.origin log → HeldError holds.Unknown request (without_servers p) (without_servers q) → due.mutations ≡ request.mutations → IsRecorded n log due →
    Held n last log q due
held_next n last log prefix due request p q law begins over same num inside above turn old held copied recorded =
    let e : Entry = submitted_entry due.submitted in
    let over_it : IsOpenOver n.origin prefix e.request e.trace = subst (λ (v : CommitRequest). IsOpenOver n.origin prefix v due.submitted.trace) (sym same) over in
    let stands = held.1.2.stands in
    let given : PipelineState = submit request p in
    let more : length (p.requests ++ request ∷ []) ≡ length p.requests + 1 = length-append p.requests (request ∷ []) in
    let caught : p.reported ≡ submitted p = subst is_caught_up (sym old) refl in
    let now : submitted q ≡ submitted given = ap submitted stands in
    let reported : q.reported ≡ p.reported = ap (λ (s : PipelineState). s.reported) stands in
    let handled : all_handled q ≡ all_handled given =
    ap all_handled stands ∙ handled_same given (first_raised held.1.0 p.resolved) (first_raised held.1.1 p.logged) (raised_length held.1.0 p.resolved) (raised_length held.1.1 p.logged) in
    let next : all_handled q ≡ pipeline_of n.origin (log ++ e ∷ []) =
    handled ∙ ap (λ (s : PipelineState). all_handled (submit request s)) old ∙ ap (λ (v : CommitRequest). all_handled (submit v (pipeline_of n.origin log))) (sym same) ∙ pipeline_next n.origin log e in (
      (omega (arith, more, caught, now, reported), next, copied ∙ ap (λ (v : CommitRequest). v.mutations) (sym same), lawful_next n.origin last log e law (open_begins n.origin prefix log e begins over_it) num above turn (room_next n.origin log p request.read_version old held.0), recorded),
      numbered_more last due.submitted.client due.submitted.number log e inside above refl refl num,
    )
