use Rattle.std.proofs.Common.{◌+◌, length}
use Rattle.cluster_core.proofs.tree.+join.Given as goal

abbrev pub decreases-join : goal.decreases-join
decreases-join l = length l.left.entries + length l.right.entries
