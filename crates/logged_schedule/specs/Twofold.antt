-- A schedule whose log is on one of two devices in turn: what is seen of it, and what its files have of its run.
use Rattle.std.specs.Prelude.{◌≡◌, ◌⊎◌, ◌≤◌, ℕ, ◌+◌, ◌-◌, ◌^◌, List, ◌++◌, Some, ⊤}
use Rattle.cluster_core.specs.Cluster.{ClusterState, database_at, tier_of}
use Rattle.cluster_core.specs.Tier.{refusal}
use Rattle.kv_core.specs.declared.snapshot.ReadError.{ReadError}
use Rattle.journal.specs.Device.{LeavesOnly}
use Rattle.journal.specs.Standing as journals
use Rattle.journal.specs.declared.device.Device.{Ghosts}
use Rattle.command_log.specs.declared.entry.Entry.{Entry}
use Rattle.replay.specs.Logged.{last_version, log_database}
use Rattle.replay.specs.Pairs.{every_key}
use Rattle.replay.specs.Replaying.{Image}
use Rattle.schedule.specs.declared.reply.Reply.{Reply}
use Rattle.schedule.specs.declared.step.Step.{Step}
use Rattle.schedule.specs.Stepwise.{StepwiseState}
use Rattle.durable.specs.Checkpoints.{HaveHistory}
use Rattle.durable.specs.Exchanging.{HasNoRoomForAll}
use Rattle.durable.specs.Twofold.{KeepsHistory}
use Rattle.logged_schedule.specs.declared.error.Unmade.{Unmade}
use Rattle.logged_schedule.specs.declared.error.Unmade.TheVariants.{Memory, Full, Exhausted, Behind}
use Rattle.logged_schedule.specs.declared.error.StepError.{StepError}
use Rattle.logged_schedule.specs.declared.twofold.TwofoldSchedule.{TwofoldSchedule}
use Rattle.logged_schedule.specs.Entries.{logged_in, newly_logged}
use Rattle.logged_schedule.specs.Keeping.{IsStoppedStep, VersionsRise}
use Rattle.logged_schedule.specs.Runs.{IsHeldLog, Run, done_as, past_in, told_as, with_step}
use Rattle.logged_schedule.specs.Standing.{HasFollowed}

-- the schedule
abbrev pub schedule_of : {D : Type 0} {G : Ghosts D} → TwofoldSchedule D G → StepwiseState
schedule_of two = two.followed.schedule

-- the device that has its log
abbrev pub current_device : {D : Type 0} {G : Ghosts D} → TwofoldSchedule D G → D
current_device two = journals.device_of two.log

-- the other one
abbrev pub other_device : {D : Type 0} {G : Ghosts D} → TwofoldSchedule D G → D
other_device two = journals.device_of two.spare

-- how many checkpoints its history has
abbrev pub checkpoints_of : {D : Type 0} {G : Ghosts D} → TwofoldSchedule D G → ℕ
checkpoints_of two = two.generation

-- what a checkpoint has of it: the database at the last reported version, at the version of the last entry
abbrev pub image_reported : {D : Type 0} {G : Ghosts D} → TwofoldSchedule D G → Image
image_reported two =
    let c = (schedule_of two).database.cluster in
    record { map = database_at c c.pipeline.reported; version = two.last }

-- the database that entries come to, at the version of the last one
abbrev pub image_after : List Entry → Image
image_after entries = record { map = (log_database entries).map; version = last_version 0 entries }

-- KEEPS: a schedule has done a run over what a lawful log comes to, whose stores it holds, from its last version on or
-- from a later one; two files have the history of these entries, all of it on the disk: those of that log, and then
-- just what the run has committed; their versions rise, up to the last one that is reported at most
pub record KeepsRunTwo {D : Type 0} {G : Ghosts D} (seen : D → List ℕ) (may_leave : D → List ℕ → Type 0) (run : Run)
    (entries : List Entry) (two : TwofoldSchedule D G) : Type 0 where
  pub done : HasFollowed run two.followed
  pub history :
      KeepsHistory seen may_leave entries (checkpoints_of two) (current_device two) (other_device two)
      (image_after entries)
  pub over : IsHeldLog run.before
  pub from : last_version 0 run.before ≤ run.config.start
  pub says : entries ≡ run.before ++ logged_in (past_in run)
  pub rise : VersionsRise 0 entries
  pub upto : last_version 0 entries ≤ (schedule_of two).database.cluster.pipeline.reported
  pub last : two.last ≡ last_version 0 entries

-- two files have the history of these entries, with all of the others after them, or with none
abbrev pub HaveAllOrNone : List Entry → List ℕ → List Entry → List ℕ → Type 0
HaveAllOrNone entries other others file = HaveHistory entries file other ⊎ HaveHistory (entries ++ others) file other

-- a step was done after a run, with a reply of which this is told, and what it committed was logged before; a crash at
-- any moment of it leaves the history from before, with all that the step committed or with nothing of it
pub record IsKeptStepTwo {D : Type 0} {G : Ghosts D} (seen : D → List ℕ) (may_leave : D → List ℕ → Type 0)
    (moment : D → ℕ) (left_since : D → ℕ → List ℕ → Type 0) (run : Run) (entries : List Entry) (step : Step)
    (told : Reply) (before after : TwofoldSchedule D G) : Type 0 where
  pub reply : Reply
  pub answered : told ≡ told_as step reply
  pub keeps :
      KeepsRunTwo seen may_leave (with_step run (done_as step) reply)
      (entries ++ newly_logged (past_in run) (done_as step) reply) after
  pub any_moment :
      LeavesOnly moment left_since (current_device before) (current_device after)
      (HaveAllOrNone entries (seen (other_device before)) (newly_logged (past_in run) (done_as step) reply))

-- what an unanswered step leaves of the device with the log
abbrev pub IsWithoutAnswerTwo :
    {D : Type 0} {G : Ghosts D} → (D → List ℕ) → (D → ℕ) → (D → ℕ → List ℕ → Type 0) → Run → List Entry → Step →
    StepError → TwofoldSchedule D G → D → Type 0
IsWithoutAnswerTwo seen moment left_since run entries step error before device =
    IsStoppedStep seen moment left_since (HaveAllOrNone entries (seen (other_device before))) run step error
    (schedule_of before) (current_device before) device

-- why servers aren't read at the last reported version: one hasn't got there, or has gone on by more than the window
abbrev pub IsNotRead : ClusterState → Unmade → Type 0
IsNotRead c Memory = ⊤
IsNotRead c Behind = (error : ReadError) × (refusal (tier_of c) every_key c.pipeline.reported ≡ Some error)
IsNotRead c error = ⊥

-- why no checkpoint is prepared: memory doesn't suffice, the last generation was given, or servers can't be read
abbrev pub IsNotPrepared : ClusterState → ℕ → Unmade → Type 0
IsNotPrepared c generation Exhausted = generation ≡ 2 ^ 64 - 1
IsNotPrepared c generation error = IsNotRead c error

-- why no checkpoint is made: for one of these reasons, or since the other device's file has no room for it
abbrev pub IsNotMade : {D : Type 0} {G : Ghosts D} → (D → List ℕ) → TwofoldSchedule D G → D → Unmade → Type 0
IsNotMade seen two spare Full = HasNoRoomForAll (seen spare) (checkpoints_of two + 1) (image_reported two)
IsNotMade seen two spare error = IsNotPrepared (schedule_of two).database.cluster (checkpoints_of two) error
