-- What becomes of a request: the one table of its outcomes. By it the commit side, the lock, the client and the worker
-- say what they tell.
use Rattle.std.specs.Prelude.{◌≡◌, ℕ, ◌+◌, ◌-◌, ◌<◌, Bool, true, false, List, [], ◌∷◌, ◌++◌}
use Rattle.std.specs.Prelude.{Option, Some, None, length, slice_index, slice_set, if◌then◌else◌}
use Rattle.kv_core.specs.declared.change.CommitRequest.{CommitRequest}
use Rattle.runtime.specs.Origins.{Origin}
use Rattle.cluster_core.specs.declared.answers.Reported.{Reported}
use Rattle.cluster_core.specs.declared.answers.Reported.TheVariants as reported
use Rattle.cluster_core.specs.Decision.{Cause}
use Rattle.runtime.specs.declared.log_entry.Entry.{Entry}
use Rattle.runtime.specs.declared.outcome.Outcome.{Outcome}
use Rattle.runtime.specs.declared.outcome.Outcome.TheVariants.{Committed, Conflict, TooOld, VersionsExhausted}
use Rattle.runtime.specs.declared.outcome.Outcome.TheVariants.{Unknown, Memory}
use Rattle.runtime.specs.Traces.{Trace}
use Rattle.runtime.specs.History.{Name, Prefix}
use Rattle.runtime.specs.Logs.{HasEarlier, IsExhausted, cause_next, version_of}

-- the entry of a client's submission
abbrev pub entry : ℕ → ℕ → CommitRequest → Trace → Entry
entry client number request trace =
    record { client = client; number = number; request = request; trace = trace }

-- the entry that the client's next submission has, by the last number of each client
abbrev pub next_entry : List ℕ → ℕ → CommitRequest → Trace → Entry
next_entry last client request trace = entry client (slice_index last client + 1) request trace

-- a submission with this cause of a conflict, if any, whose version this is, comes to this
abbrev pub decided : Option Cause → ℕ → Outcome
decided None version = Committed version
decided (Some why) version = Conflict why.seen why.range

-- the same by what is reported
abbrev pub outcome_by : Reported → Outcome
outcome_by (reported.Committed version) = Committed version
outcome_by (reported.Conflict seen range) = Conflict seen range
outcome_by reported.NothingToDo = Unknown

-- a number is given to the submission
abbrev pub gives_number : Outcome → Bool
gives_number (Committed version) = true
gives_number (Conflict seen range) = true
gives_number TooOld = false
gives_number VersionsExhausted = false
gives_number Unknown = true
gives_number Memory = false

-- a client's last number then
abbrev pub last_then : ℕ → Outcome → ℕ
last_then last outcome = if gives_number outcome then last + 1 else last

-- why: by the log to which its entry comes next. Nothing is said of `Unknown` and `Memory`
abbrev pub IsReason : Origin → List Entry → Entry → Outcome → Type 0
IsReason origin log e (Committed version) =
    decided (cause_next origin log e.request) (version_of origin log + 1) ≡ Committed version
IsReason origin log e (Conflict seen range) =
    decided (cause_next origin log e.request) (version_of origin log + 1) ≡ Conflict seen range
IsReason origin log e TooOld = origin.config.window < version_of origin log - e.request.read_version
IsReason origin log e VersionsExhausted = IsExhausted origin log e
IsReason origin log e Unknown = Unit {0}
IsReason origin log e Memory = Unit {0}

-- the log ends with the entry, which came to this
abbrev pub EndsWith : Origin → List Entry → Entry → Outcome → Type 0
EndsWith origin log e outcome =
    (before : List Entry) × (log ≡ before ++ e ∷ []) × IsReason origin before e outcome

-- the log is of this database, and ends with the entry
abbrev pub IsEndOf : Name → Entry → Prefix → Type 0
IsEndOf name e prefix = (prefix.name ≡ name) × ((before : List Entry) × (prefix.log ≡ before ++ e ∷ []))

-- the log shows the outcome: it ends with the entry where that was decided, and else it is the reason; and it has each
-- earlier submission of the entry's client
abbrev pub Shows : Origin → List Entry → Entry → Outcome → Type 0
Shows origin log e (Committed version) = EndsWith origin log e (Committed version) × HasEarlier log e
Shows origin log e (Conflict seen range) = EndsWith origin log e (Conflict seen range) × HasEarlier log e
Shows origin log e TooOld = IsReason origin log e TooOld × HasEarlier log e
Shows origin log e VersionsExhausted = IsReason origin log e VersionsExhausted × HasEarlier log e
Shows origin log e Unknown = Unit {0}
Shows origin log e Memory = Unit {0}

-- the entry's number is given to its client, whose next one it is
abbrev pub GivesNext : List ℕ → List ℕ → Entry → Type 0
GivesNext old new e = (new ≡ slice_set old e.client e.number) × (e.client < length old)

-- so where a number is given, and else no client is given any
abbrev pub GivesOne : List ℕ → List ℕ → Entry → Outcome → Type 0
GivesOne old new e (Committed version) = GivesNext old new e
GivesOne old new e (Conflict seen range) = GivesNext old new e
GivesOne old new e TooOld = new ≡ old
GivesOne old new e VersionsExhausted = new ≡ old
GivesOne old new e Unknown = GivesNext old new e
GivesOne old new e Memory = new ≡ old
