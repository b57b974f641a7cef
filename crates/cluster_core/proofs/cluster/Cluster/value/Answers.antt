use Rattle.std.proofs.Common.{◌∙◌, ap}
use Rattle.std.specs.FinMap.{get}
use Rattle.cluster_core.specs.Cluster.{database_at}
use Rattle.cluster_core.proofs.ClusterSteps.{value-cluster}
use Rattle.cluster_core.proofs.cluster.Cluster.value.Goals as goal

pub returns-clause-value : goal.returns-clause-value
returns-clause-value c =
    c.in_ok-value.ensures.value
    ∙ value-cluster c.self.inside.base.map c.self.inside.pipeline c.self.inside.tier c.args.key.now c.args.version c.self.invariant c.in_ok-value.ensures.allowed
    ∙ ap (λ state. get (database_at state c.args.version) c.args.key.now) c.self.view_is
