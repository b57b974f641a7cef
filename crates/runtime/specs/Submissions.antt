-- What became of a client's submission, by the log, and what the published state keeps of that.
use Rattle.std.specs.Prelude.{ℕ, ◌+◌, ◌-◌, ◌*◌, ◌%◌, ◌&&◌, ◌||◌, ◌==◌, nat_le, nat_lt, is_none, if◌then◌else◌}
use Rattle.std.specs.Prelude.{List, [], ◌∷◌, ◌++◌, replicate, slice_index, slice_set}
use Rattle.kv_core.specs.declared.change.CommitRequest.{CommitRequest}
use Rattle.runtime.specs.Origins.{Origin}
use Rattle.runtime.specs.declared.log_entry.Entry.{Entry}
use Rattle.runtime.specs.declared.recent_outcomes.TheConstants.{KEPT_OUTCOMES}
use Rattle.runtime.specs.declared.submission_status.SubmissionStatus.{SubmissionStatus}
use Rattle.runtime.specs.declared.submission_status.SubmissionStatus.TheVariants.{Committed, Refused, Pending}
use Rattle.runtime.specs.declared.submission_status.SubmissionStatus.TheVariants.{Forgotten, NotSubmitted}
use Rattle.runtime.specs.Logs.{cause_next, count_of, version_of}

-- ---- by the log

-- what becomes of a submission whose request comes next
abbrev pub status_next : Origin → List Entry → CommitRequest → SubmissionStatus
status_next origin log request =
    if is_none (cause_next origin log request) then Committed (version_of origin log + 1) else Refused

-- in the entries after a log: what became of a client's submission of this number, Pending where none of them is it
abbrev pub status_after : Origin → List Entry → List Entry → ℕ → ℕ → SubmissionStatus
status_after origin log [] client number = Pending
status_after origin log (e ∷ es) client number =
    if (e.client == client) && (e.number == number)
    then status_next origin log e.request
    else status_after origin (log ++ e ∷ []) es client number

-- in a log: it is committed at a version, refused, or not there yet
abbrev pub outcome_in : Origin → List Entry → ℕ → ℕ → SubmissionStatus
outcome_in origin log client number = status_after origin [] log client number

-- the same of a client's last KEPT_OUTCOMES submissions in the log; those before them are Forgotten
abbrev pub recent_outcome : Origin → List Entry → ℕ → ℕ → SubmissionStatus
recent_outcome origin log client number =
    if nat_le (number + KEPT_OUTCOMES) (count_of client log) then Forgotten else outcome_in origin log client number

-- what a client is told of a number by a log, where this is the last number that it was given: each number has its case
abbrev pub told_status : Origin → List Entry → ℕ → ℕ → ℕ → SubmissionStatus
told_status origin log client last number =
    if (number == 0) || nat_lt last number then NotSubmitted else recent_outcome origin log client number

-- ---- as it is kept

-- Private: the version of a submission whose request comes next, or 0 where it is refused: no entry has version 0
abbrev pub version_next : Origin → List Entry → CommitRequest → ℕ
version_next origin log request = if is_none (cause_next origin log request) then version_of origin log + 1 else 0

-- Private: how many submissions of each client were added, and the versions of the last KEPT_OUTCOMES of them
pub record Recent : Type 0 where
  pub counts : List ℕ
  pub versions : List ℕ

-- Private: these, and these
abbrev pub recent : List ℕ → List ℕ → Recent
recent counts versions = record { counts = counts; versions = versions }

-- Private: where the version of a client's submission is that has so many of the client's before it
abbrev pub slot_of : ℕ → ℕ → ℕ
slot_of client before = client * KEPT_OUTCOMES + before % KEPT_OUTCOMES

-- Private: with a client's next submission
abbrev pub with_outcome : Recent → ℕ → ℕ → Recent
with_outcome kept client version =
    let count = slice_index kept.counts client in
    recent (slice_set kept.counts client (count + 1)) (slice_set kept.versions (slot_of client count) version)

-- Private: with no submission of so many clients
abbrev pub nothing_kept : ℕ → Recent
nothing_kept clients = recent (replicate clients 0) (replicate (clients * KEPT_OUTCOMES) 0)

-- Private: with those of the entries after a log
abbrev pub recent_after : Origin → List Entry → List Entry → Recent → Recent
recent_after origin log [] kept = kept
recent_after origin log (e ∷ es) kept =
    recent_after origin (log ++ e ∷ []) es (with_outcome kept e.client (version_next origin log e.request))

-- Private: with those of a log
abbrev pub outcomes_of : Origin → List Entry → Recent
outcomes_of origin log = recent_after origin [] log (nothing_kept origin.config.places)

-- Private: what became of a submission that has this version
abbrev pub status_by : ℕ → SubmissionStatus
status_by version = if version == 0 then Refused else Committed version

-- Private: what is read there of a client's submission of a number
abbrev pub read_status : Recent → ℕ → ℕ → SubmissionStatus
read_status kept client number =
    let count = slice_index kept.counts client in
    if nat_lt count number then Pending
    else if nat_le (number + KEPT_OUTCOMES) count then Forgotten
    else status_by (slice_index kept.versions (slot_of client (number - 1)))
