use Rattle.std.proofs.Common.{arith}
use Rattle.commits.proofs.Handling.{appended_next}
use Rattle.commits.proofs.roles.append_each.Goals as goal

pub loop-l-preserved : goal.loop-l-preserved
loop-l-preserved g c =
    appended_next (g.R.Roles.state c.args.roles.now) (g.R.Roles.state c.loop-l.roles) (g.R.Roles.state c.append_log.new.self) c.loop-l.l c.in_ok-append_log.field-0 (omega (arith, c.logs-l-end.ensures, c.loop-l-test.true)) c.requires
    c.loop-l.invariant c.in_ok-append_log.ensures.step
