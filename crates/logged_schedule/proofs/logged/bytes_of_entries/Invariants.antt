use Rattle.std.proofs.Common.{take}
use Rattle.replay.specs.Replaying.{AreWrittenAs, log_bytes}
use Rattle.logged_schedule.proofs.logged.bytes_of_entries.Given as goal

-- those of the entries so far
abbrev pub invariant-loop-entry : goal.invariant-loop-entry
invariant-loop-entry l = AreWrittenAs (log_bytes l.out.items) (take l.entry-index l.entries)
