-- What a run of a script is.
use Rattle.std.specs.Prelude.{◌≡◌, ℕ, List, [], ◌++◌, Some, IsNone}
use Rattle.cluster_core.specs.Configuration.{config_refusal}
use Rattle.cluster_core.specs.declared.answers.Config.{Config}
use Rattle.schedule.specs.Stepwise.{HasDone, StepwiseState}
use Rattle.schedule.specs.declared.reply.Reply.{Reply}
use Rattle.schedule.specs.declared.step.Step.{Step}
use Rattle.script.specs.Script.{IsScript, explains_script}
use Rattle.script.specs.declared.error.ScriptError.TheVariants as errors
use Rattle.logged_schedule.specs.Opening.{HasDoneOverLog}
use Rattle.logged_schedule.specs.Continuing.{from_version}
use Rattle.logged_schedule.specs.declared.error.StepError.{StepError}
use Rattle.logged_schedule.specs.declared.error.StepError.TheVariants as unanswered
use Rattle.recordctl.specs.declared.run.Begun.{Begun}
use Rattle.recordctl.specs.declared.run.Stopped.{Stopped}
use Rattle.recordctl.specs.declared.run.Stopped.TheVariants as stops
use Rattle.recordctl.specs.declared.fault.Fault.{Fault}
use Rattle.recordctl.specs.declared.fault.Fault.TheVariants.{OutOfMemory, BadScript, BadConfig}
use Rattle.recordctl.specs.declared.fault.Fault.TheVariants.{CannotRead, BadArgument, Refused}
use Rattle.recordctl.specs.declared.fault.Fault.TheVariants.{RefusedSchema, RefusedQuery, SortNotServed}
use Rattle.recordctl.specs.declared.fault.Fault.TheVariants.{GaveUp, RefusedCommand, Corrupt}

-- Private: a fault says why a text that was read isn't run: it is no script, or has a configuration that is refused;
-- memory may be wanting for any
abbrev pub explains_run : List ℕ → Fault → Type 0
explains_run text (BadConfig why) =
    (config : Config) × (steps : List Step) × IsScript text config steps × (config_refusal config ≡ Some why)
explains_run text CannotRead = ⊥
explains_run text OutOfMemory = Unit {0}
explains_run text (BadScript number) = explains_script text (errors.BadScript number)
explains_run text BadArgument = ⊥
explains_run text (Refused kind at) = ⊥
explains_run text (RefusedSchema why) = ⊥
explains_run text (RefusedQuery why) = ⊥
explains_run text SortNotServed = ⊥
explains_run text GaveUp = ⊥
explains_run text (RefusedCommand why) = ⊥
explains_run text Corrupt = ⊥

-- why a script isn't run to its end, where a step isn't answered
abbrev pub stop_of : StepError → Stopped
stop_of unanswered.Memory = stops.Refused OutOfMemory
stop_of error = stops.Unlogged error

-- Private: a script that is begun is that of a text, over an empty database of its configuration
pub record IsBegunOf (text : List ℕ) (begun : Begun) : Type 0 where
  pub script : IsScript text begun.config begun.steps.items
  pub done : HasDone begun.config [] [] begun.database
  pub allowed : IsNone (config_refusal begun.config)

-- Private: a database is that of a text: the steps of the script were done over an empty one of its configuration
pub record IsRunOf (text : List ℕ) (database : StepwiseState) : Type 0 where
  pub config : Config
  pub steps : List Step
  pub replies : List Reply
  pub script : IsScript text config steps
  pub done : HasDone config steps replies database
  pub allowed : IsNone (config_refusal config)

-- Private: so it is where other steps may have been done before those of the script, over what a lawful log comes to,
-- from a version on
pub record IsRunOver (text : List ℕ) (database : StepwiseState) : Type 0 where
  pub config : Config
  pub start : ℕ
  pub before : List Step
  pub steps : List Step
  pub replies : List Reply
  pub script : IsScript text config steps
  pub done : HasDoneOverLog (from_version start config) (before ++ steps) replies database
  pub allowed : IsNone (config_refusal config)
