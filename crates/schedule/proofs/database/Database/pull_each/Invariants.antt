use Rattle.cluster_core.specs.Cluster.{may_pull}
use Rattle.schedule.specs.Settling.{HaveWorked}
use Rattle.schedule.proofs.database.Database.pull_each.Given as goal

-- the first ones did so
abbrev pub invariant-loop-server : goal.invariant-loop-server
invariant-loop-server l = HaveWorked may_pull l.server l.done l.fn.self l.self
