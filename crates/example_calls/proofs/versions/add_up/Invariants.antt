use Rattle.cluster_core.specs.Roles.{is_caught_up}
use Rattle.example_calls.proofs.versions.add_up.Given as goal

abbrev pub invariant-loop-number : goal.invariant-loop-number
invariant-loop-number l = is_caught_up l.cluster.pipeline
