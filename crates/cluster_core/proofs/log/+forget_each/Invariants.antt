use Rattle.std.proofs.Common.{length}
use Rattle.cluster_core.proofs.log.+forget_each.Given as goal

abbrev pub decreases-forget_each : goal.decreases-forget_each
decreases-forget_each l = length l.logs.now
