use Rattle.std.proofs.Common.{subst}
use Rattle.cluster_core.specs.Cluster.{ClusterState}
use Rattle.cluster_core.specs.History.{IsLegalOver}
use Rattle.cluster_core.specs.Roles.{history}
use Rattle.cluster_core.proofs.cluster.Cluster.requests.Goals as goal

pub returns-clause-legal : goal.returns-clause-legal
returns-clause-legal c = subst (λ (s : ClusterState). IsLegalOver s.base (history s.pipeline)) c.self.view_is (c.requests.ensures.legal c.self.inside.base.map)
