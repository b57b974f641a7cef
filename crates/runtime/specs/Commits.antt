-- What a commit answers, and what the client knows then.
use Rattle.std.specs.Prelude.{◌≡◌, ◌+◌, Bool, false, List, ℕ, Option, Some, None, Result, Ok, Err, IfSome}
use Rattle.std.specs.Prelude.{if◌then◌else◌, ⊤}
use mathlib.Core.List.{IsPrefix}
use Rattle.command_log.specs.declared.entry.Entry.{Entry as KeptEntry}
use Rattle.kv_core.specs.declared.change.CommitRequest.{CommitRequest}
use Rattle.schedule.specs.Past.{is_changed}
use Rattle.runtime.specs.declared.log_entry.Entry.{Entry}
use Rattle.runtime.specs.Traces.{Trace}
use Rattle.runtime.specs.declared.open_transaction.OpenTransaction.{OpenTransaction}
use Rattle.runtime.specs.declared.outcome.Outcome.{Outcome}
use Rattle.runtime.specs.declared.outcome.Outcome.TheVariants as outcomes
use Rattle.runtime.specs.declared.answers.Done.{Done}
use Rattle.runtime.specs.declared.answers.Done.TheVariants.{Committed, ReadOnly}
use Rattle.runtime.specs.declared.answers.CommitError.{CommitError}
use Rattle.runtime.specs.declared.answers.CommitError.TheVariants.{Conflict, TooOld, VersionsExhausted, Unknown, Memory}
use Rattle.runtime.specs.declared.answers.CommitError.TheVariants.{Closed}
use Rattle.runtime.specs.History.{Name, Prefix}
use Rattle.runtime.specs.Traces.{attempts_of}
use Rattle.runtime.specs.Outcomes.{IsEndOf, Shows, entry, gives_number, last_then}
use Rattle.runtime.specs.Clients.{Knowledge}
use Rattle.runtime.specs.Keeping.{IsStored}

-- the outcome of which an error tells. A closed database isn't handed the request: as with `Memory` no number is given,
-- and nothing is shown
abbrev pub told_outcome : CommitError → Outcome
told_outcome (Conflict seen range) = outcomes.Conflict seen range
told_outcome TooOld = outcomes.TooOld
told_outcome VersionsExhausted = outcomes.VersionsExhausted
told_outcome Unknown = outcomes.Unknown
told_outcome Memory = outcomes.Memory
told_outcome Closed = outcomes.Memory

-- the client's request came to this: the log shows it, the client knows the log, and it has one number more where one
-- was given
pub record Learns (old new : Knowledge) (request : CommitRequest) (trace : Trace) (outcome : Outcome)
    (log : List Entry) : Type 0 where
  pub shows : Shows old.name.origin log (entry old.number (old.last + 1) request trace) outcome
  pub known : IsPrefix log new.log
  pub last : new.last ≡ last_then old.last outcome

-- the answer tells of the outcome; `Committed` with the log that shows it, and `ReadOnly` where no command changed
-- anything, and no request was made
abbrev pub Answers : Knowledge → Knowledge → CommitRequest → Trace → Result Done CommitError → Type 0
Answers old new request trace (Ok (Committed version seen)) =
    Learns old new request trace (outcomes.Committed version) seen.prefix.log × (seen.prefix.name ≡ old.name)
Answers old new request trace (Ok ReadOnly) =
    (new.last ≡ old.last) × (is_changed (attempts_of trace.attempts.list) ≡ false)
Answers old new request trace (Err error) = (log : List Entry) × Learns old new request trace (told_outcome error) log

-- STORED: where the answer is `Committed`, the log of `seen` is stored, as far as it is kept
abbrev pub IsStoredThen :
    {E : Type 0} → (E → List ℕ → Type 0) → (List ℕ → List KeptEntry → Type 0) → Result Done CommitError → Type 0
IsStoredThen may_leave is_log (Ok (Committed version seen)) = IsStored may_leave is_log seen.prefix
IsStoredThen may_leave is_log (Ok ReadOnly) = ⊤
IsStoredThen may_leave is_log (Err error) = ⊤

-- Private: the log ends with the entry of the client's open transaction
abbrev pub IsDue : Knowledge → Option Prefix → Type 0
IsDue old due =
    (open_tx : OpenTransaction) → old.begun ≡ Some open_tx →
    IfSome due (IsEndOf old.name (entry old.number (old.last + 1) open_tx.transaction open_tx.trace))

-- Private: the log is of this database
abbrev pub IsLogOf : Name → Option Prefix → Type 0
IsLogOf name (Some prefix) = prefix.name ≡ name
IsLogOf name None = Unit {0}

-- Private: the answer where no log shows the outcome
abbrev pub unshown_answer : Outcome → Result Done CommitError
unshown_answer outcome = Err (if gives_number outcome then Unknown else Memory)

-- Private: the answer that an outcome is, with the log that shows it, where that was published
abbrev pub commit_answer : Outcome → Option Prefix → Result Done CommitError
commit_answer (outcomes.Committed version) (Some prefix) = Ok (Committed version (record { prefix = prefix }))
commit_answer (outcomes.Conflict seen range) (Some prefix) = Err (Conflict seen range)
commit_answer outcomes.TooOld (Some prefix) = Err TooOld
commit_answer outcomes.VersionsExhausted (Some prefix) = Err VersionsExhausted
commit_answer outcomes.Unknown (Some prefix) = Err Unknown
commit_answer outcomes.Memory (Some prefix) = Err Memory
commit_answer outcome None = unshown_answer outcome

-- Private: this answer, unless the database is closed
abbrev pub answer_unless : Bool → Result Done CommitError → Result Done CommitError
answer_unless is_closed answer = if is_closed then Err Closed else answer
