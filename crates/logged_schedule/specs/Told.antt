-- How errors of the crates below are told.
use Rattle.std.specs.declared.alloc.AllocError.{AllocError}
use Rattle.journal.specs.declared.device.DeviceError.TheVariants as device
use Rattle.journal.specs.declared.error.AppendError.{AppendError}
use Rattle.journal.specs.declared.error.AppendError.TheVariants as append
use Rattle.journal.specs.declared.error.RecoverError.{RecoverError}
use Rattle.journal.specs.declared.error.RecoverError.TheVariants as recovers
use Rattle.replay.specs.declared.error.ReplayError.{ReplayError}
use Rattle.replay.specs.declared.error.ReplayError.TheVariants as replays
use Rattle.schedule.specs.declared.transcript.ScheduleError.{ScheduleError}
use Rattle.schedule.specs.declared.transcript.ScheduleError.TheVariants as schedules
use Rattle.durable.specs.declared.error.ReopenError.{ReopenError}
use Rattle.durable.specs.declared.error.ReopenError.TheVariants as reopens
use Rattle.logged_schedule.specs.declared.error.OpenError.{OpenError}
use Rattle.logged_schedule.specs.declared.error.OpenError.TheVariants as opens
use Rattle.logged_schedule.specs.declared.error.OpenTwoError.{OpenTwoError}
use Rattle.logged_schedule.specs.declared.error.OpenTwoError.TheVariants as twos
use Rattle.logged_schedule.specs.declared.error.StepError.{StepError}
use Rattle.logged_schedule.specs.declared.error.StepError.TheVariants as stops

abbrev pub opening_error : RecoverError AllocError → OpenError
opening_error recovers.Memory = opens.Memory
opening_error recovers.Failed = opens.Failed
opening_error (recovers.Damage at) = opens.Damage at
opening_error (recovers.Refused refusal) = opens.Memory

abbrev pub schedule_error : ScheduleError → OpenError
schedule_error schedules.Memory = opens.Memory
schedule_error (schedules.Config why) = opens.Config why

-- want of memory is told as such
abbrev pub replay_error : ReplayError → OpenError
replay_error replays.Memory = opens.Memory
replay_error why = opens.Unreplayed why

abbrev pub stopped_by : AppendError → StepError
stopped_by append.Memory = stops.Memory
stopped_by append.Full = stops.Full
stopped_by append.Broken = stops.Unknown
stopped_by (append.Device device.Failed) = stops.Unknown
stopped_by (append.Device device.Memory) = stops.Starved

abbrev pub files_error : ReopenError → OpenTwoError
files_error reopens.Memory = twos.Memory
files_error error = twos.Files error

-- where a schedule isn't begun over what files come to
abbrev pub begun_error : OpenError → OpenTwoError
begun_error (opens.Config why) = twos.Config why
begun_error error = twos.Memory
