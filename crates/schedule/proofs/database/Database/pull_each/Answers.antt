use Rattle.std.proofs.Common.{◌||◌, ap, arith, refl}
use Rattle.cluster_core.specs.Cluster.{may_pull}
use Rattle.schedule.specs.Settling.{has_worked}
use Rattle.schedule.proofs.WorkSteps.{one_more_worked, pull_worked}
use Rattle.schedule.proofs.database.Database.pull_each.Goals as goal

pub loop-server-preserved : goal.loop-server-preserved
loop-server-preserved c =
    let i = c.loop-server.server in
    one_more_worked may_pull i c.loop-server.done (has_worked c.in_ok-work.work) _ _ c.loop-server.self _ (ap (λ now. c.loop-server.done || now) c.has_worked-done.ensures) c.loop-server.invariant
    (pull_worked c.loop-server.self _ i c.in_ok-work.work (omega (arith, c.loop-server.invariant.nearer.moved.servers, c.servers-count.ensures)) c.laws_of.ensures.ordered c.in_ok-work.ensures.step
    (record { transactions = refl; unreported = refl; commits = refl }))
