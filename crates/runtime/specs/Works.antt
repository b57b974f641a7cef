-- What a worker that builds an index does: rounds, one after another, and how the last one ended.
use Rattle.std.specs.Prelude.{◌≡◌, ◌⊎◌, ℕ, ◌<◌, Bool, true, false, List, Some, None, Result, Ok, Err}
use Rattle.std.specs.List.{list_any}
use Rattle.kv_core.specs.Range.{KeyRange}
use Rattle.schedule.specs.declared.step.Command.{Command}
use Rattle.schedule.specs.declared.step.Command.TheVariants.{Build, Readable}
use Rattle.schedule.specs.declared.reply.Reply.{Reply}
use Rattle.txn.specs.declared.retry.Ended.{Ended}
use Rattle.txn.specs.declared.retry.Ended.TheVariants as ends
use Rattle.runtime.specs.declared.answers.CommandError.{CommandError}
use Rattle.runtime.specs.declared.answers.CommandError.TheVariants.{Memory, NotEntered}
use Rattle.runtime.specs.declared.answers.Done.{Done}
use Rattle.runtime.specs.declared.answers.RunError.{RunError}
use Rattle.runtime.specs.declared.answers.RunError.TheVariants.{Refused, GaveUp}
use Rattle.runtime.specs.declared.worker_progress.Built.{Built as Totals}
use Rattle.runtime.specs.declared.index_worker.GatePoint.{GatePoint}
use Rattle.runtime.specs.declared.index_worker.GatePoint.TheVariants.{Begun, BeforeCommit}
use Rattle.runtime.specs.declared.worker_progress.Round.{Round}
use Rattle.runtime.specs.declared.worker_progress.Round.TheVariants.{Built, Marked}
use Rattle.runtime.specs.declared.index_worker.Worker.{Worker}
use Rattle.runtime.specs.Builds.{HasAsked, HasForgotten, IsTooMuch, has_marked, own_of}
use Rattle.runtime.specs.Calls.{HasCalled, marked_reply, part_reply}
use Rattle.runtime.specs.Clients.{Knowledge}
use Rattle.runtime.specs.Runs.{AttemptFails, InTurn, IsRefusal, Stops, TriesAndEnds}

-- ---- in the transaction of a round

-- the command was performed, with this answer; or memory ran out before it was
abbrev pub Asks : {A : Type 0} → (A → Reply) → Command → Knowledge → Result A CommandError → Knowledge → Type 0
Asks told command old result new = HasCalled told command old result new ⊎ ((result ≡ Err Memory) × (new ≡ old))

-- a part of the index was asked for, of so many records at most, and where all positions were built the mark
abbrev pub Performs : List ℕ → ℕ → Knowledge → Result Round CommandError → Knowledge → Type 0
Performs index limit old (Ok (Built records)) new =
    (range : KeyRange) × Asks part_reply (Build index limit) old (Ok (Some (records, range))) new
Performs index limit old (Ok Marked) new =
    (mid : Knowledge) × Asks part_reply (Build index limit) old (Ok None) mid
    × Asks marked_reply (Readable index) mid (Ok tt) new
Performs index limit old (Err error) new =
    Asks part_reply (Build index limit) old (Err error) new
    ⊎ ((mid : Knowledge) × Asks part_reply (Build index limit) old (Ok None) mid
    × Asks marked_reply (Readable index) mid (Err error) new)

-- the gate was passed at the begin, and then before the commit, where there is to be one
abbrev pub Passes : {G : Type 0} → (G → GatePoint → G → Type 0) → G → Result Round CommandError → G → Type 0
Passes passed old (Ok round) new = (mid : _) × passed old Begun mid × passed mid BeforeCommit new
Passes passed old (Err error) new = passed old Begun new

-- what the worker did in the transaction
pub record Works {G : Type 0} (passed : G → GatePoint → G → Type 0) (old : Worker G) (start : Knowledge)
    (result : Result Round CommandError) (new : Knowledge) (after : Worker G) : Type 0 where
  pub gate : Passes passed old.gate result after.gate
  pub performed : Performs old.index old.limit start result new
  pub index : after.index ≡ old.index
  pub limit : after.limit ≡ old.limit

-- ---- round after round

-- Private: another round may come to more after an attempt that ended so
abbrev pub MayGoOn : Ended → Type 0
MayGoOn ended = (ended ≡ ends.Conflict) ⊎ (ended ≡ ends.TooOld)

module _ {B : Type 0} (store : ℕ) (did : B → Knowledge → Result Round CommandError → Knowledge → B → Type 0) where
  -- a round came to this, and its transaction is committed
  abbrev pub CommitsRound : B × Knowledge → Round → B × Knowledge → Type 0
  CommitsRound old round new = (done : Done) × TriesAndEnds store did old round (Ok done) new

  -- a round that another one may follow: it read too long ago, was refused with a conflict, or isn't known to be
  -- committed; or it built so many records
  abbrev pub GoesFurther : B × Knowledge → B × Knowledge → Type 0
  GoesFurther old new = AttemptFails store did true old new ⊎ ((records : ℕ) × CommitsRound old (Built records) new)

  -- a round, whatever it came to: such a one, or one that marked the index, or whose transaction was given up
  abbrev pub IsWorkRound : B × Knowledge → B × Knowledge → Type 0
  IsWorkRound old new =
      GoesFurther old new ⊎ (CommitsRound old Marked new ⊎ ((error : CommandError) × IsRefusal store did old error new))

  -- such a round, and then the client asked what became of earlier ones
  abbrev pub ThenAsks : (B × Knowledge → B × Knowledge → Type 0) → B × Knowledge → B × Knowledge → Type 0
  ThenAsks Round old new = (mid : B × Knowledge) × Round old mid × (new.0 ≡ mid.0) × HasAsked mid.1 new.1

  -- Private: a round after which the index is known to be marked, or isn't
  abbrev pub TakesRound : Bool → B × Knowledge → B × Knowledge → Type 0
  TakesRound false old new = ThenAsks GoesFurther old new
  TakesRound true old new = ThenAsks IsWorkRound old new

  -- so many rounds, each of which another one may follow
  abbrev pub HasTaken : ℕ → B × Knowledge → B × Knowledge → Type 0
  HasTaken n old new = InTurn (ThenAsks GoesFurther) n old new

  -- why a work is refused that began so: there was no memory to begin the round; or its transaction wasn't begun or was
  -- given up, and no mark of its own stands in the log; or the state wasn't entered to ask
  abbrev pub RefusesWork : List ℕ → Knowledge → B × Knowledge → CommandError → B × Knowledge → Type 0
  RefusesWork index start old error new =
      ((error ≡ Memory) × (new ≡ old))
      ⊎ ((ThenAsks (λ a b. IsRefusal store did a error b) old new
      × (list_any (has_marked (store, index)) (own_of start new.1) ≡ false))
      ⊎ ((error ≡ NotEntered) × ThenAsks IsWorkRound old new))

  -- why it gives up in a round: the commit ended otherwise, or no token was had of one that isn't known to be
  -- committed; or the numbers don't suffice for what was built; or what became of an earlier one is forgotten
  abbrev pub GivesUp : List ℕ → Knowledge → B × Knowledge → B × Knowledge → Type 0
  GivesUp index start old new =
      Stops store did false old new
      ⊎ (ThenAsks IsWorkRound old new × (IsTooMuch (store, index) start new.1 ⊎ HasForgotten start new.1))

  -- Private: why it ends so in a round
  abbrev pub EndsWork : List ℕ → Knowledge → B × Knowledge → RunError → B × Knowledge → Type 0
  EndsWork index start old (Refused error) new = RefusesWork index start old error new
  EndsWork index start old GaveUp new = GivesUp index start old new

  -- what a worker comes to, of at most so many rounds. Where it answers, the last one marked the index, or the client
  -- found a mark of its own when it asked then
  abbrev pub IsWork : List ℕ → ℕ → B × Knowledge → Result Totals RunError → B × Knowledge → Type 0
  IsWork index limit old (Ok totals) new =
      (before : ℕ) × (before < limit) × ((mid : B × Knowledge) × HasTaken before old mid × ThenAsks IsWorkRound mid new)
  IsWork index limit old (Err (Refused error)) new =
      (before : ℕ) × (before < limit)
      × ((mid : B × Knowledge) × HasTaken before old mid × RefusesWork index old.1 mid error new)
  IsWork index limit old (Err GaveUp) new =
      HasTaken limit old new
      ⊎ ((before : ℕ) × (before < limit)
      × ((mid : B × Knowledge) × HasTaken before old mid × GivesUp index old.1 mid new))
