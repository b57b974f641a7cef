-- What a worker that builds an index comes to, by the committed entries of its own.
use Rattle.std.specs.Prelude.{◌≡◌, ◌⊎◌, ℕ, ◌+◌, ◌<◌, ◌≤◌, ◌^◌, Bool, true, false, ◌&&◌, ◌==◌, nat_lt, nat_le}
use Rattle.std.specs.Prelude.{List, [], ◌∷◌, ◌++◌, filter, count_by, sum_by, is_none, if◌then◌else◌}
use Rattle.std.specs.Prelude.{Option, Some, None}
use Rattle.std.specs.List.{list_any}
use Rattle.std.specs.Str.{bytes_eq}
use mathlib.Core.List.{IsPrefix}
use Rattle.kv_core.specs.Range.{KeyRange}
use Rattle.kv_core.specs.declared.change.CommitRequest.{CommitRequest}
use Rattle.runtime.specs.Origins.{Origin}
use Rattle.schedule.specs.Past.{is_accepted}
use Rattle.schedule.specs.declared.step.Command.{Command}
use Rattle.schedule.specs.declared.step.Command.TheVariants.{Build, Readable}
use Rattle.schedule.specs.declared.reply.Reply.{Reply}
use Rattle.schedule.specs.declared.reply.Reply.TheVariants as replies
use Rattle.runtime.specs.declared.log_entry.Entry.{Entry}
use Rattle.runtime.specs.declared.performed.Performed.{Performed}
use Rattle.runtime.specs.Traces.{Trace}
use Rattle.runtime.specs.declared.open_transaction.OpenTransaction.{OpenTransaction}
use Rattle.runtime.specs.declared.worker_progress.Round.{Round}
use Rattle.runtime.specs.declared.worker_progress.Round.TheVariants.{Built, Marked}
use Rattle.runtime.specs.declared.worker_progress.Built.{Built as Totals}
use Rattle.runtime.specs.declared.outcome.Outcome.{Outcome}
use Rattle.runtime.specs.declared.outcome.Outcome.TheVariants as outcomes
use Rattle.runtime.specs.declared.submission_status.SubmissionStatus.TheVariants.{Forgotten}
use Rattle.runtime.specs.Clients.{Knowledge, knows_that}
use Rattle.runtime.specs.Logs.{cause_next}
use Rattle.runtime.specs.Outcomes.{EndsWith, entry}
use Rattle.runtime.specs.Submissions.{recent_outcome}

-- ---- entries of one's own

-- the committed ones of the entries after a log
abbrev pub committed_behind : Origin → List Entry → List Entry → List Entry
committed_behind origin log [] = []
committed_behind origin log (e ∷ es) =
    (if is_none (cause_next origin log e.request) then e ∷ [] else []) ++ committed_behind origin (log ++ e ∷ []) es

-- the entry is of a client's submission that is numbered above one number, and not above another
abbrev pub is_numbered_in : ℕ → ℕ → ℕ → Entry → Bool
is_numbered_in client above upto e = (e.client == client) && (nat_lt above e.number && nat_le e.number upto)

-- the committed entries of a log that are of a client's submissions between these numbers
abbrev pub own_committed : Origin → ℕ → ℕ → ℕ → List Entry → List Entry
own_committed origin client above upto log =
    filter (is_numbered_in client above upto) (committed_behind origin [] log)

-- ---- what an entry built

-- a command built a part of the index of this name
abbrev pub is_build : List ℕ → Command → Reply → Bool
is_build index (Build name limit) (replies.Built records range) = bytes_eq name index
is_build index command reply = false

-- so many records it built
abbrev pub records_by : List ℕ → Command → Reply → ℕ
records_by index (Build name limit) (replies.Built records range) = if bytes_eq name index then records else 0
records_by index command reply = 0

-- a command marked the index readable
abbrev pub is_mark : List ℕ → Command → Reply → Bool
is_mark index (Readable name) reply = bytes_eq name index && is_accepted reply
is_mark index command reply = false

-- an index by the number of its store, and its name there
abbrev pub IndexIn : Type 0
IndexIn = ℕ × List ℕ

-- the entry's transaction works in the index's store
abbrev pub is_in_store : IndexIn → Entry → Bool
is_in_store index e = e.trace.store == index.0

-- the same of the commands that an entry's transaction performed: an index of the name in another store doesn't count
abbrev pub entry_has_built : IndexIn → Entry → Bool
entry_has_built index e =
    is_in_store index e
    && list_any (λ (one : Performed). is_build index.1 one.command one.reply) e.trace.attempts.list

abbrev pub records_built : IndexIn → Entry → ℕ
records_built index e =
    if is_in_store index e
    then sum_by (λ (one : Performed). records_by index.1 one.command one.reply) e.trace.attempts.list
    else 0

abbrev pub has_marked : IndexIn → Entry → Bool
has_marked index e =
    is_in_store index e && list_any (λ (one : Performed). is_mark index.1 one.command one.reply) e.trace.attempts.list

-- what a worker built: of the committed entries in its client's log at the end, those of its submissions in between.
-- One marked the index readable; `steps` counts those that built a part of it, and `records` adds up what they built
abbrev pub own_of : Knowledge → Knowledge → List Entry
own_of old new = own_committed old.name.origin old.number old.last new.last new.log

pub record IsBuilt (index : IndexIn) (old new : Knowledge) (totals : Totals) : Type 0 where
  pub marked : list_any (has_marked index) (own_of old new) ≡ true
  pub steps : totals.steps ≡ count_by (entry_has_built index) (own_of old new)
  pub records : totals.records ≡ sum_by (records_built index) (own_of old new)

-- the numbers don't suffice for what it built
abbrev pub IsTooMuch : IndexIn → Knowledge → Knowledge → Type 0
IsTooMuch index old new =
    (2 ^ 64 ≤ sum_by (records_built index) (own_of old new))
    ⊎ (2 ^ 64 ≤ count_by (entry_has_built index) (own_of old new))

-- ---- its client asks

-- the client asked what became of its submissions: only its log may have grown
abbrev pub HasAsked : Knowledge → Knowledge → Type 0
HasAsked old new = IsPrefix old.log new.log × (new ≡ knows_that old.name new.log old.number old.last old.begun)

-- what became of one of its submissions in between is forgotten
abbrev pub HasForgotten : Knowledge → Knowledge → Type 0
HasForgotten old new =
    (number : ℕ) × (old.last < number) × (number ≤ new.last)
    × (recent_outcome new.name.origin new.log new.number number ≡ Forgotten)

-- ---- rounds of a worker

-- Private: what a round performed
abbrev pub HasPerformedRound : List ℕ → Round → List Performed → Type 0
HasPerformedRound index (Built records) attempts =
    (limit : ℕ) × ((range : KeyRange)
    × (attempts ≡ record { command = Build index limit; reply = replies.Built records range } ∷ []))
HasPerformedRound index Marked attempts =
    (limit : ℕ) × (attempts
    ≡ record { command = Build index limit; reply = replies.Finished }
    ∷ record { command = Readable index; reply = replies.Done } ∷ [])

-- Private: so it did in the index's store
pub record HasWorked (index : IndexIn) (round : Round) (trace : Trace) : Type 0 where
  pub store : trace.store ≡ index.0
  pub performed : HasPerformedRound index.1 round trace.attempts.list

-- Private: a submission came to this, and the client knows its entry
abbrev pub IsSubmission : Knowledge → Knowledge → CommitRequest → Trace → Outcome → Type 0
IsSubmission old new request trace outcome =
    (log : List Entry) × EndsWith old.name.origin log (entry old.number (old.last + 1) request trace) outcome
    × IsPrefix log new.log × (new.last ≡ old.last + 1)

-- Private: a commit was told to be one, or the submission was refused, or there was none
abbrev pub Commits : Knowledge → Knowledge → OpenTransaction → Bool → Type 0
Commits old new open_tx true =
    (version : ℕ) × IsSubmission old new open_tx.transaction open_tx.trace (outcomes.Committed version)
Commits old new open_tx false =
    (new.last ≡ old.last)
    ⊎ ((seen : ℕ) × ((range : KeyRange)
    × IsSubmission old new open_tx.transaction open_tx.trace (outcomes.Conflict seen range)))

-- Private: a round came to this, and its entry is committed; or it came to nothing, and has no entry or a refused one
abbrev pub IsWorkerRound : IndexIn → Option Round → Knowledge → Knowledge → Type 0
IsWorkerRound index None old new =
    (new.last ≡ old.last) ⊎ ((open_tx : OpenTransaction) × Commits old new open_tx false)
IsWorkerRound index (Some (Built records)) old new =
    (open_tx : OpenTransaction) × HasWorked index (Built records) open_tx.trace × Commits old new open_tx true
IsWorkerRound index (Some Marked) old new =
    (open_tx : OpenTransaction) × HasWorked index Marked open_tx.trace × Commits old new open_tx true
