use Rattle.std.proofs.Common.{arith}
use Rattle.commits.proofs.Handling.{resolved_next}
use Rattle.commits.proofs.roles.resolve_each.Goals as goal

pub loop-r-preserved : goal.loop-r-preserved
loop-r-preserved g c =
    resolved_next (g.R.Roles.state c.args.roles.now) (g.R.Roles.state c.loop-r.roles) (g.R.Roles.state c.resolve.new.self) c.loop-r.r c.in_ok-resolve.field-0 (omega (arith, c.resolvers-r-end.ensures, c.loop-r-test.true)) c.requires
    c.loop-r.invariant c.in_ok-resolve.ensures.step
