use Rattle.std.specs.Prelude.{◌-◌}
use Rattle.std.specs.List.{slice_index}
use Rattle.cluster_core.specs.Cluster.{HasPulled, log_of}
use Rattle.cluster_core.proofs.cluster.Cluster.pull_log.Given as goal

abbrev pub invariant-loop : goal.invariant-loop
invariant-loop l = HasPulled l.initial.self l.self

abbrev pub decreases-loop : goal.decreases-loop
decreases-loop l = log_of l.self l.s - slice_index l.self.pulled l.s
