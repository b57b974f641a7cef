-- What a transaction over a log is answered.
use Rattle.std.specs.Prelude.{◌≡◌, ◌-◌, ◌<◌, List}
use mathlib.Core.List.{IsPrefix}
use Rattle.kv_core.specs.Map.{after_all}
use Rattle.kv_core.specs.declared.change.CommitRequest.{CommitRequest}
use Rattle.runtime.specs.Origins.{Origin, stores_before}
use Rattle.schedule.specs.declared.step.Command.{Command}
use Rattle.schedule.specs.declared.reply.Reply.{Reply}
use Rattle.schedule.specs.declared.reply.Reply.TheVariants.{Stopped}
use Rattle.schedule.specs.Commits.{view_over}
use Rattle.schedule.specs.Exact.{commands_written}
use Rattle.schedule.specs.Past.{accepted}
use Rattle.schedule.specs.Performed.{IsServed}
use Rattle.runtime.specs.declared.log_entry.Entry.{Entry}
use Rattle.runtime.specs.declared.performed.Performed.{Performed}
use Rattle.runtime.specs.Traces.{Trace}
use Rattle.runtime.specs.declared.published_reads.EnterError.{EnterError}
use Rattle.runtime.specs.declared.published_reads.EnterError.TheVariants.{NotEntered, TooOld, Memory}
use Rattle.runtime.specs.History.{Prefix}
use Rattle.runtime.specs.Logs.{commits_in, committed_at, log_map, version_of}
use Rattle.runtime.specs.Traces.{attempts_of, opened, with_performed}

-- the reply is the serial store's for what is committed in the log of the transaction's store at its read version, as
-- its own accepted commands change it; or a write limit
abbrev pub IsAnswer : Origin → List Entry → CommitRequest → Trace → Command → Reply → Type 0
IsAnswer origin log request trace command reply =
    let base = log_map origin log request.read_version in
    let before =
    commands_written trace.store base (committed_at origin log trace.store request.read_version)
    (accepted (attempts_of trace.attempts.list)) in
    IsServed trace.store (after_all before base) before
    (view_over (stores_before origin) (commits_in origin log) (opened request trace)) command reply

-- a command that stopped for want of memory stands among those performed with a reply of its own: it has read
-- the first of its ranges, and changed nothing
abbrev pub stopped : Command → Performed
stopped command = record { command = command; reply = Stopped }

-- why a command has no reply. `TooOld` only where the log that was published begins with the transaction's, and is
-- more than the window above it. Unless memory ran out the transaction is as before, and else it has written
-- nothing more
abbrev pub IsUnanswered :
    Prefix → List Entry → EnterError → Command → CommitRequest → Trace → CommitRequest → Trace → Type 0
IsUnanswered prefix published NotEntered command old before new after = (new ≡ old) × (after ≡ before)
IsUnanswered prefix published TooOld command old before new after =
    (new ≡ old) × (after ≡ before) × IsPrefix prefix.log published
    × (prefix.name.origin.config.window
    < version_of prefix.name.origin published - version_of prefix.name.origin prefix.log)
IsUnanswered prefix published Memory command old before new after =
    (new.mutations ≡ old.mutations) × (after ≡ with_performed before (stopped command))
