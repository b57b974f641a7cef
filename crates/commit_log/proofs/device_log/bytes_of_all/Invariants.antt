use Rattle.std.proofs.Common.{take}
use Rattle.journal.specs.Words.{bytes_of_each}
use Rattle.replay.specs.Replaying.{AreWrittenAs}
use Rattle.commit_log.proofs.device_log.bytes_of_all.Given as goal

-- those so far are the bytes of the first entries
abbrev pub invariant-loop-entry : goal.invariant-loop-entry
invariant-loop-entry l = AreWrittenAs (bytes_of_each l.all.items) (take l.entry-index l.entries)
