-- Errors as others tell them: why a database isn't opened, why a command has no answer, and want of memory in a run.
use Rattle.std.specs.Prelude.{Result, Ok, Err}
use Rattle.cluster_core.specs.declared.answers.ConfigError.{ConfigError}
use Rattle.cluster_core.specs.declared.answers.ConfigError.TheVariants as configs
use Rattle.schedule.specs.declared.reply.Reply.{Reply}
use Rattle.schedule.specs.declared.reply.Reply.TheVariants as replies
use Rattle.runtime.specs.declared.published_reads.EnterError.{EnterError}
use Rattle.runtime.specs.declared.published_reads.EnterError.TheVariants as entries
use Rattle.runtime.specs.declared.answers.CommandError.{CommandError}
use Rattle.runtime.specs.declared.answers.CommandError.TheVariants.{NotEntered, TooOld}
use Rattle.runtime.specs.declared.answers.CommandError.TheVariants as commands
use Rattle.runtime.specs.declared.answers.RunError.{RunError}
use Rattle.runtime.specs.declared.answers.RunError.TheVariants.{Refused}
use Rattle.runtime.specs.declared.answers.OpenError.{OpenError}
use Rattle.runtime.specs.declared.answers.OpenError.TheVariants.{Config, Memory}

-- a configuration is refused so
abbrev pub config_error : ConfigError → OpenError
config_error configs.Memory = Memory
config_error configs.BadCount = Config configs.BadCount
config_error configs.BadSplits = Config configs.BadSplits

-- a command has no reply for this
abbrev pub command_error : EnterError → CommandError
command_error entries.NotEntered = NotEntered
command_error entries.TooOld = TooOld
command_error entries.Memory = commands.Memory

-- a reply that accepts its command, or else the error that it tells
abbrev pub accepted_or_refusal : Reply → Result Reply CommandError
accepted_or_refusal (replies.Refused refusal) = Err (commands.Refused refusal)
accepted_or_refusal (replies.Corrupt key) = Err (commands.Corrupt key)
accepted_or_refusal replies.Stopped = Err commands.Memory
accepted_or_refusal reply = Ok reply

-- the same where there may be no reply
abbrev pub accepted_reply : Result Reply EnterError → Result Reply CommandError
accepted_reply (Ok reply) = accepted_or_refusal reply
accepted_reply (Err error) = Err (command_error error)

-- a run refuses so
abbrev pub run_refused : CommandError → RunError
run_refused error = Refused error

abbrev pub run_memory : RunError
run_memory = Refused commands.Memory
