use Rattle.std.proofs.Common.{◌≡◌}
use Rattle.cluster_core.specs.Cluster.{with_pipeline}
use Rattle.commits.proofs.GoingOn.{IsResolving}
use Rattle.record_layer.proofs.finishing.resolve_rest.Given as goal

abbrev pub invariant-loop-r : goal.invariant-loop-r
invariant-loop-r l =
    IsResolving l.initial.cluster.pipeline l.r l.cluster.pipeline × (l.cluster ≡ with_pipeline l.cluster.pipeline l.initial.cluster)
