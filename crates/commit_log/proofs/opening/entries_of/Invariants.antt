use Rattle.std.proofs.Common.{take}
use Rattle.journal.specs.Words.{bytes_of_each}
use Rattle.replay.specs.Replaying.{AreWrittenAs}
use Rattle.commit_log.proofs.opening.entries_of.Given as goal

-- the first byte strings are those of the entries so far
abbrev pub invariant-loop-bytes : goal.invariant-loop-bytes
invariant-loop-bytes l = AreWrittenAs (bytes_of_each (take l.bytes-index l.log)) l.all.items
