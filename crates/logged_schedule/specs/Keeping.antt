-- What the file of a schedule has of its run.
use Rattle.std.specs.Prelude.{◌≡◌, ◌⊎◌, ◌<◌, ◌≤◌, ℕ, ◌+◌, ◌^◌, List, [], ◌∷◌, ◌++◌, length, map, ⊤}
use Rattle.journal.specs.Device.{LeavesOnly}
use Rattle.journal.specs.Form.{blocks}
use Rattle.journal.specs.declared.device.Device.{Ghosts}
use Rattle.command_log.specs.Form.{bytes_of_entry}
use Rattle.command_log.specs.declared.entry.Entry.{Entry}
use Rattle.replay.specs.Logged.{last_version}
use Rattle.schedule.specs.declared.reply.Reply.{Reply}
use Rattle.schedule.specs.declared.step.Step.{Step}
use Rattle.schedule.specs.Stepwise.{DoesNext, StepwiseState}
use Rattle.durable.specs.Keeping.{HasLogOf, HasOnDisk, no_base}
use Rattle.logged_schedule.specs.declared.error.StepError.{StepError}
use Rattle.logged_schedule.specs.declared.error.StepError.TheVariants as stops
use Rattle.logged_schedule.specs.declared.logged.LoggedSchedule.{LoggedSchedule}
use Rattle.logged_schedule.specs.Entries.{logged_in, newly_logged}
use Rattle.logged_schedule.specs.Runs.{IsHeldLog, Run, done_as, past_in, told_as, with_step}
use Rattle.logged_schedule.specs.Standing.{HasFollowed, device_with_log, schedule_of}

-- the versions of entries rise, from above this one on
abbrev pub VersionsRise : ℕ → List Entry → Type 0
VersionsRise version [] = ⊤
VersionsRise version (entry ∷ entries) = (version < entry.version) × VersionsRise entry.version entries

-- KEEPS: a schedule has done a run over what a lawful log comes to, whose stores it holds, from its last version on or
-- from a later one; the file has the log of these entries, all of it on the disk: those of that log, and then just what
-- the run has committed; their versions rise, up to the last one that is reported at most
pub record KeepsRun {D : Type 0} {G : Ghosts D} (seen : D → List ℕ) (may_leave : D → List ℕ → Type 0) (run : Run)
    (entries : List Entry) (logged : LoggedSchedule D G) : Type 0 where
  pub done : HasFollowed run logged.followed
  pub disk : HasOnDisk seen may_leave no_base entries (device_with_log logged)
  pub over : IsHeldLog run.before
  pub from : last_version 0 run.before ≤ run.config.start
  pub says : entries ≡ run.before ++ logged_in (past_in run)
  pub rise : VersionsRise 0 entries
  pub upto : last_version 0 entries ≤ (schedule_of logged).database.cluster.pipeline.reported

-- the file has the log of these entries, with all of the others after them, or with none
abbrev pub HasAllOrNone : List Entry → List Entry → List ℕ → Type 0
HasAllOrNone entries others file = HasLogOf no_base file entries ⊎ HasLogOf no_base file (entries ++ others)

-- a step was done after a run, with a reply of which this is told, and what it committed was logged before; a crash at
-- any moment of it leaves the log from before, with all that the step committed or with nothing of it
pub record IsKeptStep {D : Type 0} {G : Ghosts D} (seen : D → List ℕ) (may_leave : D → List ℕ → Type 0)
    (moment : D → ℕ) (left_since : D → ℕ → List ℕ → Type 0) (run : Run) (entries : List Entry) (step : Step)
    (told : Reply) (before after : LoggedSchedule D G) : Type 0 where
  pub reply : Reply
  pub answered : told ≡ told_as step reply
  pub keeps :
      KeepsRun seen may_leave (with_step run (done_as step) reply)
      (entries ++ newly_logged (past_in run) (done_as step) reply) after
  pub any_moment :
      LeavesOnly moment left_since (device_with_log before) (device_with_log after)
      (HasAllOrNone entries (newly_logged (past_in run) (done_as step) reply))

-- a step was done with some reply, and isn't answered: a crash at any moment of it leaves this of what it committed
pub record MayHaveLogged {D : Type 0} (moment : D → ℕ) (left_since : D → ℕ → List ℕ → Type 0)
    (Leaves : List Entry → List ℕ → Type 0) (run : Run) (step : Step) (state : StepwiseState) (old new : D) :
    Type 0 where
  pub reply : Reply
  pub after : StepwiseState
  pub next : DoesNext (done_as step) reply state after
  pub any_moment : LeavesOnly moment left_since old new (Leaves (newly_logged (past_in run) (done_as step) reply))

-- a step was done with some reply, and isn't answered: the file has no room for what it committed, and nothing was
-- written
pub record IsWithoutRoom {D : Type 0} (seen : D → List ℕ) (run : Run) (step : Step) (state : StepwiseState)
    (old new : D) : Type 0 where
  pub reply : Reply
  pub after : StepwiseState
  pub next : DoesNext (done_as step) reply state after
  pub same : new ≡ old
  pub too_long :
      2 ^ 63
      ≤ length (seen old) + length (blocks (map bytes_of_entry (newly_logged (past_in run) (done_as step) reply)))

-- what an unanswered step leaves of the device with the log: nothing was written where memory ran out, or the file had
-- no room
abbrev pub IsStoppedStep :
    {D : Type 0} → (D → List ℕ) → (D → ℕ) → (D → ℕ → List ℕ → Type 0) → (List Entry → List ℕ → Type 0) → Run → Step →
    StepError → StepwiseState → D → D → Type 0
IsStoppedStep seen moment left_since Leaves run step stops.Memory state old new = new ≡ old
IsStoppedStep seen moment left_since Leaves run step stops.Full state old new =
    IsWithoutRoom seen run step state old new
IsStoppedStep seen moment left_since Leaves run step error state old new =
    MayHaveLogged moment left_since Leaves run step state old new

-- a crash at any moment of it leaves the log from before, with all that the step committed or with nothing of it
abbrev pub IsWithoutAnswer :
    {D : Type 0} {G : Ghosts D} → (D → List ℕ) → (D → ℕ) → (D → ℕ → List ℕ → Type 0) → Run → List Entry → Step →
    StepError → LoggedSchedule D G → D → Type 0
IsWithoutAnswer seen moment left_since run entries step error before device =
    IsStoppedStep seen moment left_since (HasAllOrNone entries) run step error (schedule_of before)
    (device_with_log before) device
