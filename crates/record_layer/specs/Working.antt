-- Work in sessions of a database of one thread: it is done, committed, and done anew where that may help.
use Rattle.std.specs.Prelude.{◌≡◌, ◌⊎◌, ℕ, ◌+◌, ◌<◌, max, false, Result, Ok, Err}
use Rattle.kv_core.specs.declared.change.CommitRequest.{CommitRequest}
use Rattle.cluster_core.specs.declared.answers.SubmitError.{SubmitError}
use Rattle.cluster_core.specs.declared.answers.SubmitError.TheVariants as submits
use Rattle.txn.specs.Attempts.{MayTryAgain}
use Rattle.txn.specs.declared.retry.Ended.{Ended}
use Rattle.txn.specs.declared.retry.Ended.TheVariants as ends
use Rattle.runtime.specs.Runs.{InTurn}
use Rattle.record_layer.specs.declared.database.NotCommitted.{NotCommitted}
use Rattle.record_layer.specs.declared.database.NotCommitted.TheVariants.{Conflict, Later, Refused, Unknown, Unsettled}
use Rattle.record_layer.specs.declared.error.Error.{Error}
use Rattle.record_layer.specs.declared.not_done.NotDone.{NotDone}
use Rattle.record_layer.specs.declared.not_done.NotDone.TheVariants as undone
use Rattle.record_layer.specs.Databases.{DatabaseView, IsCommit, IsNotCommitted}
use Rattle.record_layer.specs.Sessions.{IsNoSession, IsSession, SessionView}

-- how an attempt ended that was refused before it had a version
abbrev pub ended_unsubmitted : SubmitError → Ended
ended_unsubmitted submits.TooOld = ends.TooOld
ended_unsubmitted submits.VersionsExhausted = ends.Other
ended_unsubmitted submits.Memory = ends.Other

-- how an attempt ended that isn't committed, or isn't known to be
abbrev pub ended_uncommitted : NotCommitted → Ended
ended_uncommitted (Conflict seen range) = ends.Conflict
ended_uncommitted Later = ends.FutureVersion
ended_uncommitted (Refused error) = ended_unsubmitted error
ended_uncommitted Unknown = ends.Unknown
ended_uncommitted Unsettled = ends.Other

-- an attempt that was made: the database now, the work since, its answer, and the transaction that it left
pub record Turn (W A : Type 0) : Type 0 where
  pub database : DatabaseView
  pub work : W
  pub answer : A
  pub tx : CommitRequest

module _ {W A : Type 0} (does : W → SessionView → Result A Error → W → SessionView → Type 0) where
  -- the work was done in a new session, and left this answer and this transaction
  abbrev pub IsAttempt : DatabaseView → W → A → CommitRequest → W → Type 0
  IsAttempt db old answer tx new =
      (begun ended : SessionView) × IsSession db begun × does old begun (Ok answer) new ended × (ended.tx ≡ tx)

  -- there was no session; or the work was given up in one
  abbrev pub IsNoAttempt : DatabaseView → W → Error → W → Type 0
  IsNoAttempt db old error new =
      (IsNoSession error db × (new ≡ old))
      ⊎ ((begun ended : SessionView) × IsSession db begun × does old begun (Err error) new ended)

  -- what was left isn't committed, and another attempt may come to more
  abbrev pub MayRetry : Turn W A → DatabaseView → Type 0
  MayRetry turn db =
      (why : NotCommitted) × MayTryAgain (ended_uncommitted why) false × IsNotCommitted why turn.tx turn.database db

  -- so it was made anew
  abbrev pub Retries : Turn W A → Turn W A → Type 0
  Retries old new = MayRetry old new.database × IsAttempt new.database old.work new.answer new.tx new.work

  -- what comes of an attempt that was made, with those that follow it, of which there are fewer than the limit: the
  -- last one is committed at this version; or it may be followed, and no other was made; or it isn't committed, and
  -- none may follow, or there were as many as there may be
  abbrev pub IsCompleted : ℕ → Turn W A → Result (A × ℕ) NotDone → W → DatabaseView → Type 0
  IsCompleted limit first (Ok done) work db =
      (before : ℕ) × (before < max 1 limit) × ((last : Turn W A) × InTurn Retries before first last
      × (work ≡ last.work) × (done.0 ≡ last.answer) × IsCommit last.tx done.1 last.database db)
  IsCompleted limit first (Err (undone.Refused error)) work db =
      (before : ℕ) × (before < max 1 limit) × ((last : Turn W A) × InTurn Retries before first last
      × MayRetry last db × IsNoAttempt db last.work error work)
  IsCompleted limit first (Err (undone.NotCommitted why)) work db =
      (before : ℕ) × (before < max 1 limit) × ((last : Turn W A) × InTurn Retries before first last
      × (work ≡ last.work) × IsNotCommitted why last.tx last.database db
      × (MayTryAgain (ended_uncommitted why) false → before + 1 ≡ max 1 limit))

  -- what comes of one attempt: it is committed at this version; or none was made, and nothing has changed; or what it
  -- left isn't committed
  abbrev pub IsRunOnce : DatabaseView → W → Result (A × ℕ) NotDone → W → DatabaseView → Type 0
  IsRunOnce old work (Ok done) after new =
      (tx : CommitRequest) × IsAttempt old work done.0 tx after × IsCommit tx done.1 old new
  IsRunOnce old work (Err (undone.Refused error)) after new = (new ≡ old) × IsNoAttempt old work error after
  IsRunOnce old work (Err (undone.NotCommitted why)) after new =
      (tx : CommitRequest) × (answer : A) × IsAttempt old work answer tx after × IsNotCommitted why tx old new
