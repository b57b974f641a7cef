use Rattle.std.proofs.Common.{◌+◌, ◌≤◌, Some, refl, subst, sym}
use Rattle.cluster_core.proofs.OwnerReads.{owner_short}
use Rattle.cluster_core.proofs.tier.Tier.depth.Goals as goal

pub returns-in-Some : goal.returns-in-Some
returns-in-Some c =
    subst (λ n. n ≤ c.args.self.now.window + 1) (sym c.depth.ensures)
    (owner_short c.args.self.now c.self.inside.splits c.self.inside.window c.self.inside.servers.items c.as_slice.result.now 0 c.args.key.now (Some c.in-Some.server.now) c.self.view_is c.self.invariant c.as_slice.ensures.value c.in-Some.ensures c.in-Some.server.now refl)
