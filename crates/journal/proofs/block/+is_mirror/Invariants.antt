use Rattle.std.proofs.Common.{length}
use Rattle.journal.proofs.block.+is_mirror.Given as goal

abbrev pub decreases-is_mirror : goal.decreases-is_mirror
decreases-is_mirror l = length l.bytes.now
