use Rattle.std.proofs.Common.{length}
use Rattle.cluster_core.proofs.server.+pull_each.Given as goal

abbrev pub decreases-pull_each : goal.decreases-pull_each
decreases-pull_each l = length l.servers.now
