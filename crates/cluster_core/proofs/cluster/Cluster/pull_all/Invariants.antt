use Rattle.std.specs.Prelude.{ℕ, ◌<◌}
use Rattle.cluster_core.specs.Cluster.{HasPulled, HasWholeLog}
use Rattle.cluster_core.proofs.cluster.Cluster.pull_all.Given as goal

abbrev pub invariant-loop-s : goal.invariant-loop-s
invariant-loop-s l = HasPulled l.initial.self l.self × ((server : ℕ) → server < l.s → HasWholeLog l.self server)
