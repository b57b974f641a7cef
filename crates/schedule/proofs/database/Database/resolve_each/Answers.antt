use Rattle.std.proofs.Common.{◌||◌, ap, arith, refl}
use Rattle.schedule.specs.Settling.{has_worked, resolver_may}
use Rattle.schedule.proofs.WorkSteps.{one_more_worked, resolve_worked}
use Rattle.schedule.proofs.database.Database.resolve_each.Goals as goal

pub loop-resolver-preserved : goal.loop-resolver-preserved
loop-resolver-preserved c =
    let i = c.loop-resolver.resolver in
    one_more_worked resolver_may i c.loop-resolver.done (has_worked c.in_ok-work.work) _ _ c.loop-resolver.self _ (ap (λ now. c.loop-resolver.done || now) c.has_worked-done.ensures) c.loop-resolver.invariant
    (resolve_worked c.loop-resolver.self _ i c.in_ok-work.work (omega (arith, c.loop-resolver.invariant.nearer.moved.resolvers, c.resolvers-count.ensures)) c.in_ok-work.ensures.step
    (record { transactions = refl; unreported = refl; commits = refl }))
