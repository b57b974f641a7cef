-- How errors of the crates below are told.
use Rattle.std.specs.declared.alloc.AllocError.{AllocError}
use Rattle.journal.specs.declared.error.RecoverError.{RecoverError}
use Rattle.journal.specs.declared.error.RecoverError.TheVariants as recovers
use Rattle.replay.specs.declared.error.PerformError.{PerformError}
use Rattle.replay.specs.declared.error.PerformError.TheVariants as performs
use Rattle.replay.specs.declared.error.ReplayError.{ReplayError}
use Rattle.replay.specs.declared.error.ReplayError.TheVariants as replays
use Rattle.durable.specs.declared.error.OpenError.{OpenError}
use Rattle.durable.specs.declared.error.OpenError.TheVariants as opens
use Rattle.durable.specs.declared.error.ReopenError.{ReopenError}
use Rattle.durable.specs.declared.error.ReopenError.TheVariants as reopens
use Rattle.durable.specs.declared.error.CommitError.{CommitError}
use Rattle.durable.specs.declared.error.CommitError.TheVariants as commits

abbrev pub open_error : RecoverError AllocError → OpenError
open_error recovers.Memory = opens.Memory
open_error recovers.Failed = opens.Failed
open_error (recovers.Damage at) = opens.Damage at
open_error (recovers.Refused refusal) = opens.Memory

abbrev pub unreplayed_error : ReplayError → OpenError
unreplayed_error replays.Memory = opens.Memory
unreplayed_error error = opens.Unreplayed error

abbrev pub commit_error : PerformError → CommitError
commit_error performs.Memory = commits.Memory
commit_error error = commits.Refused error

abbrev pub reopen_error : ReplayError → ReopenError
reopen_error replays.Memory = reopens.Memory
reopen_error error = reopens.Unreplayed error
