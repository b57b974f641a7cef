-- What becomes of a request that was handed in, by what was due before it.
use Rattle.std.proofs.Common.{◌≡◌, ℕ, ◌+◌, ◌-◌, ◌^◌, ◌<◌, List, [], ◌∷◌, ◌++◌, Option, Some, None, inl, inr, refl, sym, ap, ◌∙◌, subst, arith}
use Rattle.std.specs.Prelude.{IfSome}
use Rattle.runtime.specs.Origins.{Origin}
use Rattle.cluster_core.specs.declared.answers.Reported.{Reported}
use Rattle.cluster_core.specs.declared.answers.Reported.TheVariants as reported
use Rattle.cluster_core.specs.Decision.{Cause}
use Rattle.cluster_core.specs.Roles.{told}
use Rattle.kv_core.specs.declared.change.CommitRequest.{CommitRequest}
use Rattle.runtime.specs.declared.log_entry.Entry.{Entry}
use Rattle.runtime.specs.Traces.{Trace}
use Rattle.runtime.specs.declared.in_flight.InFlight.{InFlight}
use Rattle.runtime.specs.declared.in_flight.InFlight.TheVariants.{Idle, Unreported, Decided, Added}
use Rattle.runtime.specs.declared.outcome.Outcome.{Outcome}
use Rattle.runtime.specs.declared.outcome.Outcome.TheVariants.{Committed, Conflict, TooOld, VersionsExhausted, Unknown, Memory}
use Rattle.runtime.specs.CommitStates.{Adds, AddsEntry, CommitView, IsHandled, IsOneDue, LeavesEntry, commit_view, due_of}
use Rattle.runtime.specs.History.{Name, Prefix, log_prefix, submitted_entry}
use Rattle.runtime.specs.Logs.{AreGiven, HasEarlier, IsExhausted, cause_next, version_of}
use Rattle.runtime.specs.Outcomes.{GivesNext, IsEndOf, Shows, decided, next_entry, outcome_by}
use Rattle.runtime.proofs.Numbers.{earlier_begins, earlier_next}

-- what is in flight is one submission at most
pub one_due : (in_flight : InFlight) (log : List Entry) → IsOneDue log (due_of in_flight log)
one_due Idle log = inl refl
one_due (Unreported due) log = inr (submitted_entry due.submitted, refl)
one_due (Decided due version) log = inr (submitted_entry due.submitted, refl)
one_due (Added step) log = inr (submitted_entry step.submitted, refl)

decided_told : (why : Option Cause) (version : ℕ) → outcome_by (told why version) ≡ decided why version
decided_told None version = refl
decided_told (Some why) version = refl

something_told : (why : Option Cause) (version : ℕ) → reported.NothingToDo ≡ told why version → ⊥
something_told None version is = cc
something_told (Some why) version is = cc

-- it was reported, and its entry is added
pub handled_by : (old new : CommitView) (e : Entry) (r : Reported) → new.name ≡ old.name → new.published ≡ old.published → IsOneDue old.log old.due → HasEarlier old.due e →
    r ≡ told (cause_next old.name.origin old.due e.request) (version_of old.name.origin old.due + 1) → GivesNext old.last new.last e → AddsEntry old new e → IsHandled old new e (outcome_by r)
handled_by old new e (reported.Committed version) name published waiting earlier is gives adds =
    let why = cause_next old.name.origin old.due e.request in
    let next : ℕ = version_of old.name.origin old.due + 1 in
    record { name = name; published = published; waiting = waiting; reason = sym (decided_told why next) ∙ ap outcome_by (sym is); earlier = earlier; numbers = gives; added = adds }
handled_by old new e (reported.Conflict seen range) name published waiting earlier is gives adds =
    let why = cause_next old.name.origin old.due e.request in
    let next : ℕ = version_of old.name.origin old.due + 1 in
    record { name = name; published = published; waiting = waiting; reason = sym (decided_told why next) ∙ ap outcome_by (sym is); earlier = earlier; numbers = gives; added = adds }
handled_by old new e reported.NothingToDo name published waiting earlier is gives adds = absurd (something_told (cause_next old.name.origin old.due e.request) (version_of old.name.origin old.due + 1) is)

-- it has a version, and its entry is due
pub handled_unknown : (old new : CommitView) (e : Entry) → new.name ≡ old.name → new.published ≡ old.published → IsOneDue old.log old.due → HasEarlier old.due e → GivesNext old.last new.last e → LeavesEntry old new e → IsHandled old new e Unknown
handled_unknown old new e name published waiting earlier gives leaves =
    record { name = name; published = published; waiting = waiting; reason = tt; earlier = earlier; numbers = gives; added = leaves }

-- memory ran out in finishing
pub handled_unfinished : (old new : CommitView) (e : Entry) → new.name ≡ old.name → new.published ≡ old.published → new.log ≡ old.log → new.due ≡ old.due → new.last ≡ old.last → IsOneDue old.log old.due → HasEarlier old.due e → IsHandled old new e Memory
handled_unfinished old new e name published log due last waiting earlier =
    record { name = name; published = published; waiting = waiting; reason = tt; earlier = earlier; numbers = last; added = inr (log, due) }

-- nothing was submitted, and all is as before: memory ran out, or there is a reason
pub handled_stays : (old new : CommitView) (e : Entry) → new ≡ old → IsOneDue old.log old.due → HasEarlier old.due e → IsHandled old new e Memory
handled_stays old new e same waiting earlier =
    handled_unfinished old new e (ap (λ (s : CommitView). s.name) same) (ap (λ (s : CommitView). s.published) same) (ap (λ (s : CommitView). s.log) same) (ap (λ (s : CommitView). s.due) same) (ap (λ (s : CommitView). s.last) same) waiting earlier

pub handled_too_old : (old new : CommitView) (e : Entry) → new ≡ old → old.log ≡ old.due → HasEarlier old.due e → old.name.origin.config.window < version_of old.name.origin old.due - e.request.read_version → IsHandled old new e TooOld
handled_too_old old new e same idle earlier late = record {
  name = ap (λ (s : CommitView). s.name) same;
  published = ap (λ (s : CommitView). s.published) same;
  waiting = inl (sym idle);
  reason = late;
  earlier = earlier;
  numbers = ap (λ (s : CommitView). s.last) same;
  added = (ap (λ (s : CommitView). s.log) same ∙ idle, ap (λ (s : CommitView). s.due) same);
}

pub handled_exhausted : (old new : CommitView) (e : Entry) → new ≡ old → old.log ≡ old.due → HasEarlier old.due e → IsExhausted old.name.origin old.due e → IsHandled old new e VersionsExhausted
handled_exhausted old new e same idle earlier none = record {
  name = ap (λ (s : CommitView). s.name) same;
  published = ap (λ (s : CommitView). s.published) same;
  waiting = inl (sym idle);
  reason = none;
  earlier = earlier;
  numbers = ap (λ (s : CommitView). s.last) same;
  added = (ap (λ (s : CommitView). s.log) same ∙ idle, ap (λ (s : CommitView). s.due) same);
}

-- no number is left for a client that was given the last one
pub no_number : (origin : Origin) (log : List Entry) (e : Entry) → HasEarlier log e → e.number ≡ 2 ^ 64 → IsExhausted origin log e
no_number origin log e earlier last = inr (last, earlier.stands (2 ^ 64 - 1) (omega arith) (omega (arith, last)))

-- what was due is in the log
abbrev pub finished : CommitView → CommitView
finished s = commit_view s.name s.published s.due s.due s.last

added_first : (old new : CommitView) (e : Entry) (outcome : Outcome) → Adds (finished old) new e outcome → Adds old new e outcome
added_first old new e (Committed version) added = added
added_first old new e (Conflict seen range) added = added
added_first old new e TooOld added = added
added_first old new e VersionsExhausted added = added
added_first old new e Unknown added = added
added_first old new e Memory added = inl (elim added [
  | inl one ↦ one
  | inr same ↦ same
])

-- a request that was handled once what was due was finished
finished_first : (old new : CommitView) (e : Entry) (outcome : Outcome) → IsOneDue old.log old.due → IsHandled (finished old) new e outcome → IsHandled old new e outcome
finished_first old new e outcome waiting h = record {
  name = h.name;
  published = h.published;
  waiting = waiting;
  reason = h.reason;
  earlier = h.earlier;
  numbers = h.numbers;
  added = added_first old new e outcome h.added;
}

pub finished_is : (old mid : CommitView) → mid.name ≡ old.name → mid.published ≡ old.published → mid.log ≡ old.due → mid.due ≡ old.due → mid.last ≡ old.last → mid ≡ finished old
finished_is old mid name published log due last = λ i. commit_view (name i) (published i) (log i) (due i) (last i)

-- ---- a request, from the finishing before it to the one after it

-- what was due was finished, and then the request was submitted
abbrev pub IsSubmitted : CommitView → CommitView → Entry → Type 0
IsSubmitted old new e = (new.name ≡ old.name) × (new.published ≡ old.published) × LeavesEntry old new e

-- its entry was added too
pub handled_done : (s0 s1 s2 s3 : CommitView) (client : ℕ) (request : CommitRequest) (trace : Trace) (r : Reported) → s1 ≡ finished s0 → IsOneDue s0.log s0.due → AreGiven s0.last s0.due →
    r ≡ told (cause_next s1.name.origin s1.due request) (version_of s1.name.origin s1.due + 1) → GivesNext s1.last s2.last (next_entry s1.last client request trace) → IsSubmitted s1 s2 (next_entry s1.last client request trace) →
    s3.name ≡ s2.name → s3.published ≡ s2.published → s3.log ≡ s2.due → s3.due ≡ s2.due → s3.last ≡ s2.last → IsHandled s0 s3 (next_entry s0.last client request trace) (outcome_by r)
handled_done s0 s1 s2 s3 client request trace r is waiting given told_so gives taken name published log due last =
    let e : Entry = next_entry s0.last client request trace in
    let told_then : r ≡ told (cause_next s0.name.origin s0.due request) (version_of s0.name.origin s0.due + 1) = subst (λ (s : CommitView). r ≡ told (cause_next s.name.origin s.due request) (version_of s.name.origin s.due + 1)) is told_so in
    let gave : GivesNext s0.last s2.last e = subst (λ (s : CommitView). GivesNext s.last s2.last (next_entry s.last client request trace)) is gives in
    let took : IsSubmitted (finished s0) s2 e = subst (λ (s : CommitView). IsSubmitted s s2 (next_entry s.last client request trace)) is taken in
    handled_by s0 s3 e r (name ∙ took.0) (published ∙ took.1) waiting (earlier_next s0.last client request trace s0.due given) told_then
    (subst (λ (l : List ℕ). GivesNext s0.last l e) (sym last) gave) (log ∙ took.2.1, due ∙ took.2.1)

-- memory ran out before its entry was added
pub handled_lost : (s0 s1 s2 s3 : CommitView) (client : ℕ) (request : CommitRequest) (trace : Trace) → s1 ≡ finished s0 → IsOneDue s0.log s0.due → AreGiven s0.last s0.due →
    GivesNext s1.last s2.last (next_entry s1.last client request trace) → IsSubmitted s1 s2 (next_entry s1.last client request trace) →
    s3.name ≡ s2.name → s3.published ≡ s2.published → s3.log ≡ s2.log → s3.due ≡ s2.due → s3.last ≡ s2.last → IsHandled s0 s3 (next_entry s0.last client request trace) Unknown
handled_lost s0 s1 s2 s3 client request trace is waiting given gives taken name published log due last =
    let e : Entry = next_entry s0.last client request trace in
    let gave : GivesNext s0.last s2.last e = subst (λ (s : CommitView). GivesNext s.last s2.last (next_entry s.last client request trace)) is gives in
    let took : IsSubmitted (finished s0) s2 e = subst (λ (s : CommitView). IsSubmitted s s2 (next_entry s.last client request trace)) is taken in
    handled_unknown s0 s3 e (name ∙ took.0) (published ∙ took.1) waiting (earlier_next s0.last client request trace s0.due given)
    (subst (λ (l : List ℕ). GivesNext s0.last l e) (sym last) gave) (log ∙ took.2.0, due ∙ took.2.1)

-- it was refused
pub handled_refused : (s0 s1 s2 : CommitView) (client : ℕ) (request : CommitRequest) (trace : Trace) (outcome : Outcome) → s1 ≡ finished s0 → IsOneDue s0.log s0.due →
    IsHandled s1 s2 (next_entry s1.last client request trace) outcome → IsHandled s0 s2 (next_entry s0.last client request trace) outcome
handled_refused s0 s1 s2 client request trace outcome is waiting h =
    finished_first s0 s2 (next_entry s0.last client request trace) outcome waiting (subst (λ (s : CommitView). IsHandled s s2 (next_entry s.last client request trace) outcome) is h)

-- the log that ends with its entry, once the history has that
pub due_ends : (s0 s1 s2 : CommitView) (client : ℕ) (request : CommitRequest) (trace : Trace) (due : Option Prefix) → s1 ≡ finished s0 → IsSubmitted s1 s2 (next_entry s1.last client request trace) →
    IfSome due (λ prefix. prefix ≡ log_prefix s2.name s2.due) → IfSome due (IsEndOf s0.name (next_entry s0.last client request trace))
due_ends s0 s1 s2 client request trace None is taken ends = tt
due_ends s0 s1 s2 client request trace (Some prefix) is taken ends =
    let e : Entry = next_entry s0.last client request trace in
    let took : IsSubmitted (finished s0) s2 e = subst (λ (s : CommitView). IsSubmitted s s2 (next_entry s.last client request trace)) is taken in
    (ap (λ (p : Prefix). p.name) ends ∙ took.0, (s0.due, ap (λ (p : Prefix). p.log) ends ∙ took.2.1))

-- ---- the log that shows it

log_shows : (old new : CommitView) (e : Entry) (outcome : Outcome) → IsHandled old new e outcome → Shows old.name.origin new.log e outcome
log_shows old new e (Committed version) h =
    ((old.due, h.added.0, h.reason), subst (λ (l : List Entry). HasEarlier l e) (sym h.added.0) (earlier_begins old.due (old.due ++ e ∷ []) e (e ∷ [], refl) h.earlier))
log_shows old new e (Conflict seen range) h =
    ((old.due, h.added.0, h.reason), subst (λ (l : List Entry). HasEarlier l e) (sym h.added.0) (earlier_begins old.due (old.due ++ e ∷ []) e (e ∷ [], refl) h.earlier))
log_shows old new e TooOld h =
    (subst (λ (l : List Entry). old.name.origin.config.window < version_of old.name.origin l - e.request.read_version) (sym h.added.0) h.reason, subst (λ (l : List Entry). HasEarlier l e) (sym h.added.0) h.earlier)
log_shows old new e VersionsExhausted h =
    (subst (λ (l : List Entry). IsExhausted old.name.origin l e) (sym h.added.0) h.reason, subst (λ (l : List Entry). HasEarlier l e) (sym h.added.0) h.earlier)
log_shows old new e Unknown h = tt
log_shows old new e Memory h = tt

pub shows_by : (old new : CommitView) (e : Entry) (outcome : Outcome) (seen : Option Prefix) → IsHandled old new e outcome → IfSome seen (λ prefix. prefix ≡ log_prefix new.name new.log) →
    IfSome seen (λ prefix. Shows prefix.name.origin prefix.log e outcome)
shows_by old new e outcome None h is = tt
shows_by old new e outcome (Some prefix) h is =
    subst (λ (p : Prefix). Shows p.name.origin p.log e outcome) (sym is) (subst (λ (n : Name). Shows n.origin new.log e outcome) (sym h.name) (log_shows old new e outcome h))
