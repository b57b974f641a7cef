-- Runs of a schedule, and steps whose report is lost.
use Rattle.std.specs.Prelude.{◌≡◌, List, [], ◌∷◌, ◌++◌, map}
use Rattle.cluster_core.specs.Cluster.{ClusterState}
use Rattle.cluster_core.specs.Configuration.{first_cluster_over}
use Rattle.cluster_core.specs.declared.answers.Config.{Config}
use Rattle.command_log.specs.declared.entry.Entry.{Entry}
use Rattle.replay.specs.Logged.{IsLawfulLog, log_database}
use Rattle.schedule.specs.declared.reply.Reply.{Reply}
use Rattle.schedule.specs.declared.reply.Reply.TheVariants.{Reported}
use Rattle.schedule.specs.declared.reply.Report.{Report}
use Rattle.schedule.specs.declared.reply.Report.TheVariants.{Committed, Conflict, Unknown}
use Rattle.schedule.specs.declared.step.Step.{Step}
use Rattle.schedule.specs.declared.step.Step.TheVariants as steps
use Rattle.schedule.specs.Contract.{past_of}
use Rattle.schedule.specs.Holds.{HoldsAll}
use Rattle.schedule.specs.Past.{Past}

-- a log is lawful, and the map that it comes to holds its stores
pub record IsHeldLog (log : List Entry) : Type 0 where
  pub lawful : IsLawfulLog log
  pub holds : HoldsAll (log_database log).map (log_database log).stores

-- steps of a schedule of a configuration, over what these entries come to, and what they replied
pub record Run : Type 0 where
  pub before : List Entry
  pub config : Config
  pub steps : List Step
  pub replies : List Reply

-- the cluster with which it begins
abbrev pub first_in : Run → ClusterState
first_in run = first_cluster_over (log_database run.before).map run.config

abbrev pub past_in : Run → Past
past_in run = past_of [] run.steps run.replies

-- a run with more steps
abbrev pub with_steps : Run → List Step → List Reply → Run
with_steps run more replies = record run { steps = run.steps ++ more; replies = run.replies ++ replies }

abbrev pub with_step : Run → Step → Reply → Run
with_step run step reply = with_steps run (step ∷ []) (reply ∷ [])

-- how a step is done: one whose report is lost as one that is reported
abbrev pub done_as : Step → Step
done_as steps.Lost = steps.Report
done_as step = step

-- no report of these steps is lost
abbrev pub LosesNone : List Step → Type 0
LosesNone done = map done_as done ≡ done

-- a report of which its client learns nothing
abbrev pub lost : Report → Report
lost (Committed client version) = Unknown client
lost (Conflict client seen range) = Unknown client
lost (Unknown client) = Unknown client

-- what is told of a step that was done with a reply
abbrev pub told_as : Step → Reply → Reply
told_as steps.Lost (Reported reports) = Reported (map lost reports)
told_as step reply = reply
