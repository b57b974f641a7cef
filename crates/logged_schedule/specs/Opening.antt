-- What opening a log gives.
use Rattle.std.specs.Prelude.{ℕ, List}
use Rattle.cluster_core.specs.Configuration.{first_cluster_over}
use Rattle.cluster_core.specs.declared.answers.Config.{Config}
use Rattle.command_log.specs.declared.entry.Entry.{Entry}
use Rattle.journal.specs.declared.device.Device.{Ghosts}
use Rattle.replay.specs.Continuing.{config_after}
use Rattle.replay.specs.Logged.{log_database}
use Rattle.replay.specs.Replaying.{AreWrittenAs}
use Rattle.schedule.specs.declared.reply.Reply.{Reply}
use Rattle.schedule.specs.declared.step.Step.{Step}
use Rattle.schedule.specs.Stepwise.{HasDoneFrom, StepwiseState}
use Rattle.durable.specs.Keeping.{HasLogOf, no_base}
use Rattle.logged_schedule.specs.declared.followed.Followed.{Followed}
use Rattle.logged_schedule.specs.declared.logged.LoggedSchedule.{LoggedSchedule}
use Rattle.logged_schedule.specs.Keeping.{KeepsRun}
use Rattle.logged_schedule.specs.Runs.{IsHeldLog}
use Rattle.logged_schedule.specs.Standing.{BeginsFollowed, run_over}

-- a schedule of a configuration has done these steps over what a lawful log comes to, whose stores it holds
abbrev pub HasDoneOverLog : Config → List Step → List Reply → StepwiseState → Type 0
HasDoneOverLog config steps replies state =
    (log : List Entry) × IsHeldLog log
    × HasDoneFrom (first_cluster_over (log_database log).map config) steps replies state

-- REOPENED: the file has the log of some entries, which are lawful, and the schedule has done nothing yet over what
-- they come to, from the last one's version on; its device keeps their log
pub record IsOpenedAgain {D : Type 0} {G : Ghosts D} (seen : D → List ℕ) (may_leave : D → List ℕ → Type 0)
    (config : Config) (file : List ℕ) (logged : LoggedSchedule D G) : Type 0 where
  pub entries : List Entry
  pub had : HasLogOf no_base file entries
  pub keeps : KeepsRun seen may_leave (run_over entries (config_after entries config)) entries logged

-- Private: byte strings are those of entries, which are lawful, and nothing was done yet over what these come to
pub record IsBegunAgain (config : Config) (log : List (List ℕ)) (followed : Followed) : Type 0 where
  pub entries : List Entry
  pub written : AreWrittenAs log entries
  pub over : IsHeldLog entries
  pub follows : BeginsFollowed entries (config_after entries config) followed
