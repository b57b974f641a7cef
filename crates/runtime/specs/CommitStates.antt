-- The locked state, what is in flight in it, and what it tells of a request.
use Rattle.std.specs.Prelude.{◌≡◌, ◌⊎◌, ℕ, List, [], ◌∷◌, ◌++◌, IfSome}
use Rattle.cluster_core.specs.Roles.{PipelineState, all_handled}
use Rattle.cluster_core.specs.declared.answers.Reported.{Reported}
use Rattle.cluster_core.specs.declared.answers.Reported.TheVariants as reported
use Rattle.runtime.specs.declared.log_entry.Entry.{Entry}
use Rattle.runtime.specs.declared.in_flight.Due.{Due}
use Rattle.runtime.specs.declared.in_flight.InFlight.{InFlight}
use Rattle.runtime.specs.declared.in_flight.InFlight.TheVariants.{Idle, Unreported, Decided, Added}
use Rattle.runtime.specs.declared.outcome.Outcome.{Outcome}
use Rattle.runtime.specs.declared.outcome.Outcome.TheVariants.{Committed, Conflict, TooOld, VersionsExhausted}
use Rattle.runtime.specs.declared.outcome.Outcome.TheVariants.{Unknown, Memory}
use Rattle.commits.specs.Finishing.{IsUnfinished}
use Rattle.runtime.specs.History.{Name, log_prefix, submitted_entry}
use Rattle.runtime.specs.Logs.{HasEarlier, IsWellFormedLog, logged_next, pipeline_of}
use Rattle.runtime.specs.Outcomes.{GivesOne, IsReason}
use Rattle.runtime.specs.Publication.{Leads}
use Rattle.runtime.specs.Submissions.{version_next}

-- the log once what is in flight is finished
abbrev pub due_of : InFlight → List Entry → List Entry
due_of Idle log = log
due_of (Unreported due) log = log ++ submitted_entry due.submitted ∷ []
due_of (Decided due version) log = log ++ submitted_entry due.submitted ∷ []
due_of (Added step) log = log ++ submitted_entry step.submitted ∷ []

-- Private: a submission of which this was reported
abbrev pub decided_due : Reported → Due → InFlight
decided_due (reported.Committed version) due = Decided due version
decided_due (reported.Conflict seen range) due = Decided (record due { mutations = [] }) 0
decided_due reported.NothingToDo due = Decided (record due { mutations = [] }) 0

-- Private: the log that ends with its entry is that, where the history has it
abbrev pub IsRecorded : Name → List Entry → Due → Type 0
IsRecorded name log due =
    IfSome due.prefix (λ prefix. prefix ≡ log_prefix name (log ++ submitted_entry due.submitted ∷ []))

-- Private: how far the pipeline is, and what leads on from the log
abbrev pub IsInFlight : Name → List Entry → PipelineState → InFlight → Type 0
IsInFlight name log p Idle = p ≡ pipeline_of name.origin log
IsInFlight name log p (Unreported due) =
    IsUnfinished p
    × (all_handled p ≡ pipeline_of name.origin (log ++ submitted_entry due.submitted ∷ []))
    × (due.mutations ≡ due.submitted.request.value.mutations)
    × IsWellFormedLog name.origin (log ++ submitted_entry due.submitted ∷ [])
    × IsRecorded name log due
IsInFlight name log p (Decided due version) =
    (p ≡ pipeline_of name.origin (log ++ submitted_entry due.submitted ∷ []))
    × (due.mutations ≡ logged_next name.origin log due.submitted.request.value)
    × (version ≡ version_next name.origin log due.submitted.request.value)
    × IsWellFormedLog name.origin (log ++ submitted_entry due.submitted ∷ [])
    × IsRecorded name log due
IsInFlight name log p (Added step) =
    (p ≡ pipeline_of name.origin (log ++ submitted_entry step.submitted ∷ [])) × Leads name log step

-- the locked state: which database it is, the published log, the log of all entries that were added, that log once what
-- is in flight is finished, and the last submission number of each client
pub record CommitView : Type 0 where
  pub name : Name
  pub published : List Entry
  pub log : List Entry
  pub due : List Entry
  pub last : List ℕ

abbrev pub commit_view : Name → List Entry → List Entry → List Entry → List ℕ → CommitView
commit_view name published log due last =
    record { name = name; published = published; log = log; due = due; last = last }

-- one entry at most is due after the log
abbrev pub IsOneDue : List Entry → List Entry → Type 0
IsOneDue log due = (due ≡ log) ⊎ ((e : Entry) × (due ≡ log ++ e ∷ []))

-- what was due is in the log, and nothing else
abbrev pub Finishes : CommitView → CommitView → Type 0
Finishes old new = (new.log ≡ old.due) × (new.due ≡ old.due)

-- the entry is added after what was due, and nothing else
abbrev pub AddsEntry : CommitView → CommitView → Entry → Type 0
AddsEntry old new e = (new.log ≡ old.due ++ e ∷ []) × (new.due ≡ old.due ++ e ∷ [])

-- what was due is in the log, and just the entry is due after it
abbrev pub LeavesEntry : CommitView → CommitView → Entry → Type 0
LeavesEntry old new e = (new.log ≡ old.due) × (new.due ≡ old.due ++ e ∷ [])

-- by what became of its request: the entry is added, or due, or neither. What was due is in the log first, unless
-- memory runs out in that
abbrev pub Adds : CommitView → CommitView → Entry → Outcome → Type 0
Adds old new e (Committed version) = AddsEntry old new e
Adds old new e (Conflict seen range) = AddsEntry old new e
Adds old new e TooOld = Finishes old new
Adds old new e VersionsExhausted = Finishes old new
Adds old new e Unknown = LeavesEntry old new e
Adds old new e Memory = Finishes old new ⊎ ((new.log ≡ old.log) × (new.due ≡ old.due))

-- a request whose entry this is was handed in, and came to this; what was due comes before the entry
pub record IsHandled (old new : CommitView) (e : Entry) (outcome : Outcome) : Type 0 where
  pub name : new.name ≡ old.name
  pub published : new.published ≡ old.published
  pub waiting : IsOneDue old.log old.due
  pub reason : IsReason old.name.origin old.due e outcome
  pub earlier : HasEarlier old.due e
  pub numbers : GivesOne old.last new.last e outcome
  pub added : Adds old new e outcome
