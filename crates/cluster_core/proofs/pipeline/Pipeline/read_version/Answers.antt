use Rattle.std.proofs.Common.{subst}
use Rattle.cluster_core.specs.Roles.{AreInOrder}
use Rattle.cluster_core.proofs.Ordered.{in_order}
use Rattle.cluster_core.proofs.pipeline.Pipeline.read_version.Goals as goal

pub returns-clause-clocks : goal.returns-clause-clocks
returns-clause-clocks c = subst AreInOrder c.self.view_is (in_order _ _ _ _ _ _ _ c.self.invariant)
