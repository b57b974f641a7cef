use Rattle.std.proofs.Common.{length}
use Rattle.cluster_core.proofs.server.+least_pulled.Given as goal

abbrev pub decreases-least_pulled : goal.decreases-least_pulled
decreases-least_pulled l = length l.servers.now
