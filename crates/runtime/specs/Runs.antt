-- What a run of transactions in a store comes to: attempts, one after another, and how the last one ended.
use Rattle.std.specs.Prelude.{◌≡◌, ◌⊎◌, ℕ, zero, suc, ◌<◌, max, Bool, true, false}
use Rattle.std.specs.Prelude.{Option, Some, Result, Ok, Err, if◌then◌else◌}
use mathlib.Core.List.{IsPrefix}
use Rattle.schedule.specs.declared.refusal.Refusal.{Refusal}
use Rattle.schedule.specs.declared.refusal.Refusal.TheVariants as refusals
use Rattle.txn.specs.declared.retry.Ended.{Ended}
use Rattle.txn.specs.declared.retry.Ended.TheVariants as ends
use Rattle.runtime.specs.declared.open_transaction.OpenTransaction.{OpenTransaction}
use Rattle.runtime.specs.declared.answers.CommandError.{CommandError}
use Rattle.runtime.specs.declared.answers.CommandError.TheVariants.{Refused}
use Rattle.runtime.specs.declared.answers.CommandError.TheVariants as commands
use Rattle.runtime.specs.declared.answers.CommitError.{CommitError}
use Rattle.runtime.specs.declared.answers.CommitError.TheVariants.{Conflict, TooOld, VersionsExhausted}
use Rattle.runtime.specs.declared.answers.CommitError.TheVariants.{Unknown, Memory, Closed}
use Rattle.runtime.specs.declared.answers.Done.{Done}
use Rattle.runtime.specs.declared.answers.RunError.{RunError}
use Rattle.runtime.specs.declared.answers.RunError.TheVariants as runs
use Rattle.runtime.specs.declared.retrying.Failure.{Failure}
use Rattle.runtime.specs.declared.retrying.Failure.TheVariants as failures
use Rattle.runtime.specs.Clients.{IsFresh, IsSameTransaction, Knowledge}
use Rattle.runtime.specs.Commits.{Answers, IsDue}
use Rattle.runtime.specs.History.{Prefix}

-- the client is the same, and its log begins with the one before
pub record GoesOnFrom (old new : Knowledge) : Type 0 where
  pub name : new.name ≡ old.name
  pub number : new.number ≡ old.number
  pub log : IsPrefix old.log new.log

-- the transaction goes on: only its client's log may have grown, and commands may have been performed
pub record Continues (old new : Knowledge) : Type 0 where
  pub follows : GoesOnFrom old new
  pub last : new.last ≡ old.last
  pub begun :
      (open_tx : OpenTransaction) → old.begun ≡ Some open_tx →
      (after : OpenTransaction) × (new.begun ≡ Some after) × IsSameTransaction open_tx after

-- a transaction of the client begins in a store, over a log that begins with its own, which is its own then
pub record Starts (store : ℕ) (old new : Knowledge) : Type 0 where
  pub follows : GoesOnFrom old new
  pub last : new.last ≡ old.last
  pub begun :
      (open_tx : OpenTransaction) × (new.begun ≡ Some open_tx) × IsFresh new.name new.log store open_tx

-- the client's transaction is committed, or not, so
pub record Ends (old : Knowledge) (result : Result Done CommitError) (new : Knowledge) : Type 0 where
  pub follows : GoesOnFrom old new
  pub answer :
      (open_tx : OpenTransaction) × (old.begun ≡ Some open_tx)
      × Answers old new open_tx.transaction open_tx.trace result

-- so many steps in turn
abbrev pub InTurn : {A : Type 0} → (A → A → Type 0) → ℕ → A → A → Type 0
InTurn Step zero first last = first ≡ last
InTurn Step (suc n) first last = (before : _) × InTurn Step n first before × Step before last

abbrev pub is_old : Refusal → Bool
is_old refusals.TooOld = true
is_old other = false

-- the body gave its transaction up since it reads too long ago
abbrev pub is_too_old : CommandError → Bool
is_too_old commands.TooOld = true
is_too_old (Refused refusal) = is_old refusal
is_too_old error = false

-- another attempt may come to more: after `Unknown` it does no harm only where the writes may be made twice
abbrev pub may_follow : Bool → CommitError → Bool
may_follow repeatable (Conflict seen range) = true
may_follow repeatable TooOld = true
may_follow repeatable VersionsExhausted = false
may_follow repeatable Unknown = repeatable
may_follow repeatable Memory = false
may_follow repeatable Closed = false

-- Private: how an attempt failed that its body gave up
abbrev pub failure_by : {A : Type 0} → CommandError → Failure A
failure_by error = if is_too_old error then failures.Ended ends.TooOld else failures.Refused error

-- Private: how a failed attempt ended, or why its run is refused
abbrev pub failure_ended : {A : Type 0} → Failure A → Result Ended RunError
failure_ended (failures.Refused error) = Err (runs.Refused error)
failure_ended (failures.Lost answer due) = Ok ends.Unknown
failure_ended (failures.Ended ended) = Ok ended

-- Private: how an attempt ended whose commit was refused
abbrev pub ended_by : CommitError → Ended
ended_by (Conflict seen range) = ends.Conflict
ended_by TooOld = ends.TooOld
ended_by VersionsExhausted = ends.Other
ended_by Unknown = ends.Unknown
ended_by Memory = ends.Other
ended_by Closed = ends.Other

module _ {B A : Type 0} (store : ℕ) (did : B → Knowledge → Result A CommandError → Knowledge → B → Type 0) where
  -- a transaction began, and the body had this answer in it
  abbrev pub Tries : B × Knowledge → Result A CommandError → B × Knowledge → Type 0
  Tries old answer new = (start : Knowledge) × Starts store old.1 start × did old.0 start answer new.1 new.0

  -- the body had this answer, and its transaction was committed, or not, so
  abbrev pub TriesAndEnds : B × Knowledge → A → Result Done CommitError → B × Knowledge → Type 0
  TriesAndEnds old answer result new = (mid : Knowledge) × Tries old (Ok answer) (new.0, mid) × Ends mid result new.1

  -- an attempt that another one may follow: it read too long ago, or was refused with a conflict, or where its writes
  -- may be made twice it isn't known what became of it
  abbrev pub AttemptFails : Bool → B × Knowledge → B × Knowledge → Type 0
  AttemptFails repeatable old new =
      ((error : CommandError) × (is_too_old error ≡ true) × Tries old (Err error) new)
      ⊎ ((answer : A)
      × ((error : CommitError) × (may_follow repeatable error ≡ true) × TriesAndEnds old answer (Err error) new))

  -- the transaction wasn't begun, or its body gave it up for another reason
  abbrev pub IsRefusal : B × Knowledge → CommandError → B × Knowledge → Type 0
  IsRefusal old error new =
      ((error ≡ commands.NotEntered) × (new ≡ old))
      ⊎ ((is_too_old error ≡ false) × Tries old (Err error) new)

  -- the commit ended so that no other attempt follows
  abbrev pub Stops : Bool → B × Knowledge → B × Knowledge → Type 0
  Stops repeatable old new =
      (answer : A)
      × ((error : CommitError) × (may_follow repeatable error ≡ false) × TriesAndEnds old answer (Err error) new)

  -- Private: it isn't known what became of the commit
  abbrev pub LosesReply : B × Knowledge → B × Knowledge → Type 0
  LosesReply old new = (answer : A) × TriesAndEnds old answer (Err Unknown) new

  -- Private: the same, where the body had this answer, and the log ends with the entry
  abbrev pub IsLost : B × Knowledge → A → Option Prefix → B × Knowledge → Type 0
  IsLost old answer due new =
      (mid : Knowledge) × Tries old (Ok answer) (new.0, mid) × Ends mid (Err Unknown) new.1 × IsDue mid due

  -- Private: how an attempt failed
  abbrev pub FailsSo : B × Knowledge → Failure A → B × Knowledge → Type 0
  FailsSo old (failures.Refused error) new = IsRefusal old error new
  FailsSo old (failures.Lost answer due) new = IsLost old answer due new
  FailsSo old (failures.Ended ends.Conflict) new = AttemptFails false old new
  FailsSo old (failures.Ended ends.TooOld) new = AttemptFails false old new
  FailsSo old (failures.Ended ends.Unknown) new = LosesReply old new
  FailsSo old (failures.Ended ends.Other) new = Stops true old new
  FailsSo old (failures.Ended ends.Committed) new = ⊥
  FailsSo old (failures.Ended ends.ReadOnly) new = ⊥
  FailsSo old (failures.Ended ends.FutureVersion) new = ⊥

  -- what a run comes to, of at most so many attempts, and one at least. It answers what the body did in the very
  -- transaction that ended so; before it were only attempts that another one may follow
  abbrev pub IsRun : Bool → ℕ → B × Knowledge → Result (A × Done) RunError → B × Knowledge → Type 0
  IsRun repeatable limit old (Ok both) new =
      (before : ℕ) × (before < max 1 limit) × ((mid : B × Knowledge) × InTurn (AttemptFails repeatable) before old mid
      × TriesAndEnds mid both.0 (Ok both.1) new)
  IsRun repeatable limit old (Err (runs.Refused error)) new =
      (before : ℕ) × (before < max 1 limit) × ((mid : B × Knowledge) × InTurn (AttemptFails repeatable) before old mid
      × IsRefusal mid error new)
  IsRun repeatable limit old (Err runs.GaveUp) new =
      InTurn (AttemptFails repeatable) (max 1 limit) old new
      ⊎ ((before : ℕ) × (before < max 1 limit)
      × ((mid : B × Knowledge) × InTurn (AttemptFails repeatable) before old mid × Stops repeatable mid new))
