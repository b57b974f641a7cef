use Rattle.std.proofs.Common.{length}
use Rattle.journal.proofs.block.+was_mirror.Given as goal

abbrev pub decreases-was_mirror : goal.decreases-was_mirror
decreases-was_mirror l = length l.bytes.now
