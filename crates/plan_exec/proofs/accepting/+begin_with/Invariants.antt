use Rattle.std.proofs.Common.{length}
use Rattle.plan_exec.proofs.accepting.+begin_with.Given as goal

abbrev pub decreases-begin_with : goal.decreases-begin_with
decreases-begin_with l = length l.first.now
