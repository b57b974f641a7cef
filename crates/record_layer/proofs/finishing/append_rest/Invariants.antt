use Rattle.std.proofs.Common.{◌≡◌}
use Rattle.cluster_core.specs.Cluster.{with_pipeline}
use Rattle.commits.proofs.GoingOn.{IsAppending}
use Rattle.record_layer.proofs.finishing.append_rest.Given as goal

abbrev pub invariant-loop-l : goal.invariant-loop-l
invariant-loop-l l =
    IsAppending l.initial.cluster.pipeline l.l l.cluster.pipeline × (l.cluster ≡ with_pipeline l.cluster.pipeline l.initial.cluster)
