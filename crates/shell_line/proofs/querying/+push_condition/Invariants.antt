use Rattle.std.proofs.Common.{length}
use Rattle.shell_line.proofs.querying.+push_condition.Given as goal

abbrev pub decreases-push_condition : goal.decreases-push_condition
decreases-push_condition l = length l.words.list.now
