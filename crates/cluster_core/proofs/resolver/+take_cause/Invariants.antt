use Rattle.std.proofs.Common.{length}
use Rattle.cluster_core.proofs.resolver.+take_cause.Given as goal

abbrev pub decreases-take_cause : goal.decreases-take_cause
decreases-take_cause l = length l.resolvers.now
