use Rattle.std.proofs.Common.{length}
use Rattle.planner.proofs.planning.+keep_longest.Given as goal

abbrev pub decreases-keep_longest : goal.decreases-keep_longest
decreases-keep_longest l = length l.indexes.now
