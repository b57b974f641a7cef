use Rattle.std.proofs.Common.{◌∙◌, ap}
use Rattle.kv_core.specs.Read.{read_of}
use Rattle.cluster_core.specs.Cluster.{database_at}
use Rattle.cluster_core.proofs.ClusterSteps.{read-cluster}
use Rattle.cluster_core.proofs.cluster.Cluster.read.Goals as goal

pub returns-clause-pairs : goal.returns-clause-pairs
returns-clause-pairs c =
    c.in_ok-pairs.ensures.pairs
    ∙ read-cluster c.self.inside.base.map c.self.inside.pipeline c.self.inside.tier c.args.range.now c.args.version c.args.limit c.args.reverse c.self.invariant c.in_ok-pairs.ensures.allowed
    ∙ ap (λ state. read_of (database_at state c.args.version) c.args.range.now c.args.limit c.args.reverse) c.self.view_is
