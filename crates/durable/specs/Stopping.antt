-- What transactions of which one isn't committed leave of a log, and why it isn't.
use Rattle.std.specs.Prelude.{◌≡◌, ℕ, ◌+◌, ◌-◌, ◌^◌, List, [], ◌∷◌, ◌++◌, length, ⊤}
use Rattle.command_log.specs.declared.entry.Entry.{Entry}
use Rattle.replay.specs.Commands.{commands_of}
use Rattle.replay.specs.Logged.{log_database}
use Rattle.replay.specs.Replaying.{AreUndone, Image}
use Rattle.durable.specs.declared.request.Request.{Request}
use Rattle.durable.specs.declared.error.CommitError.{CommitError}
use Rattle.durable.specs.declared.error.CommitError.TheVariants.{Memory, Refused, Full, Exhausted, Closed}
use Rattle.durable.specs.declared.error.CommitError.TheVariants.{Unknown, Starved, Unseen}
use Rattle.durable.specs.declared.error.Uncommitted.{Uncommitted}
use Rattle.durable.specs.Keeping.{Base, HasNoRoom, HasOnDisk, KeepsLog, entries_after, entry_at}

-- Behind a log a transaction isn't committed at the version after this one. The database keeps that log then: a change
-- is refused by what the log comes to, the file has no room, or the last version was given. Where it isn't known what
-- became of it nothing is said, and where it can't be read the log has it.
abbrev pub IsStoppedBehind :
    {D : Type 0} → (D → List ℕ) → (D → List ℕ → Type 0) → Base → List Entry → ℕ → Request → CommitError → D →
    Image → Type 0
IsStoppedBehind seen may_leave base entries version request Memory device image =
    KeepsLog seen may_leave base entries device image
IsStoppedBehind seen may_leave base entries version request (Refused error) device image =
    KeepsLog seen may_leave base entries device image
    × (let d = log_database (base.before ++ entries) in
    AreUndone request.store d.map (commands_of request.changes) error)
IsStoppedBehind seen may_leave base entries version request Full device image =
    KeepsLog seen may_leave base entries device image
    × HasNoRoom (seen device) version request
IsStoppedBehind seen may_leave base entries version request Exhausted device image =
    KeepsLog seen may_leave base entries device image × (version ≡ 2 ^ 64 - 1)
IsStoppedBehind seen may_leave base entries version request Closed device image =
    KeepsLog seen may_leave base entries device image
IsStoppedBehind seen may_leave base entries version request Unknown device image = ⊤
IsStoppedBehind seen may_leave base entries version request Starved device image = ⊤
IsStoppedBehind seen may_leave base entries version request Unseen device image =
    HasOnDisk seen may_leave base (entries ++ entry_at (version + 1) request ∷ []) device

-- of these requests, from the version after this one on, the first ones are committed, and the next one isn't
pub record StopsAt {D : Type 0} (seen : D → List ℕ) (may_leave : D → List ℕ → Type 0) (base : Base)
    (entries : List Entry) (version : ℕ) (requests : List Request) (why : Uncommitted) (device : D) (image : Image) :
    Type 0 where
  pub first : List Request
  pub request : Request
  pub others : List Request
  pub split : requests ≡ first ++ request ∷ others
  pub at : length first ≡ why.place
  pub stopped :
      IsStoppedBehind seen may_leave base (entries ++ entries_after version first) (version + length first) request
      why.error device image
