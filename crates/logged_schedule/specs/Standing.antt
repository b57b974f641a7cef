-- What is seen of a schedule with a log, and what is followed of its runs.
use Rattle.std.specs.Prelude.{◌≡◌, List, []}
use Rattle.journal.specs.Standing as journals
use Rattle.journal.specs.declared.device.Device.{Ghosts}
use Rattle.cluster_core.specs.declared.answers.Config.{Config}
use Rattle.schedule.specs.declared.step.Step.{Step}
use Rattle.schedule.specs.Stepwise.{HasDoneFrom, StepwiseState}
use Rattle.command_log.specs.declared.entry.Entry.{Entry}
use Rattle.logged_schedule.specs.declared.followed.Followed.{Followed}
use Rattle.logged_schedule.specs.declared.followed.Stepped.{Stepped}
use Rattle.logged_schedule.specs.declared.logged.LoggedSchedule.{LoggedSchedule}
use Rattle.logged_schedule.specs.Entries.{newly_logged}
use Rattle.logged_schedule.specs.Followed.{IsFollowed}
use Rattle.logged_schedule.specs.Runs.{LosesNone, Run, done_as, first_in, past_in, with_step}

-- the schedule
abbrev pub schedule_of : {D : Type 0} {G : Ghosts D} → LoggedSchedule D G → StepwiseState
schedule_of logged = logged.followed.schedule

-- the device that has its log
abbrev pub device_with_log : {D : Type 0} {G : Ghosts D} → LoggedSchedule D G → D
device_with_log logged = journals.device_of logged.journal

-- a run was done in which no report is lost, and is followed
pub record HasFollowed (run : Run) (followed : Followed) : Type 0 where
  pub done : HasDoneFrom (first_in run) run.steps run.replies followed.schedule
  pub follows : IsFollowed (past_in run) followed.following
  pub none_lost : LosesNone run.steps

-- a run in which nothing was done yet, over what these entries come to
abbrev pub run_over : List Entry → Config → Run
run_over before config = record { before = before; config = config; steps = []; replies = [] }

-- Private: nothing was done yet
abbrev pub BeginsFollowed : List Entry → Config → Followed → Type 0
BeginsFollowed before config followed = HasFollowed (run_over before config) followed

-- Private: whatever run was done before, a step was done after it, and what it committed was told
abbrev pub StepsFollowed : Step → Followed → Stepped → Type 0
StepsFollowed step before stepped =
    (run : Run) → HasFollowed run before →
    HasFollowed (with_step run (done_as step) stepped.reply) stepped.followed
    × (stepped.told.items ≡ newly_logged (past_in run) (done_as step) stepped.reply)
