use Rattle.std.proofs.Common.{◌||◌, ap, arith, refl}
use Rattle.schedule.specs.Settling.{has_worked, log_may}
use Rattle.schedule.proofs.WorkSteps.{one_more_worked, append_worked}
use Rattle.schedule.proofs.database.Database.append_each.Goals as goal

pub loop-log-preserved : goal.loop-log-preserved
loop-log-preserved c =
    let i = c.loop-log.log in
    one_more_worked log_may i c.loop-log.done (has_worked c.in_ok-work.work) _ _ c.loop-log.self _ (ap (λ now. c.loop-log.done || now) c.has_worked-done.ensures) c.loop-log.invariant
    (append_worked c.loop-log.self _ i c.in_ok-work.work (omega (arith, c.loop-log.invariant.nearer.moved.logs, c.logs-count.ensures)) c.laws_of.ensures.ordered c.in_ok-work.ensures.step
    (record { transactions = refl; unreported = refl; commits = refl }))
