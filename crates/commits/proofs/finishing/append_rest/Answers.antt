use Rattle.std.proofs.Common.{arith}
use Rattle.commits.proofs.GoingOn.{appends_one, appending_first}
use Rattle.commits.proofs.finishing.append_rest.Goals as goal

pub loop-l-init : goal.loop-l-init
loop-l-init c = appending_first c.args.pipeline.now

pub loop-l-preserved : goal.loop-l-preserved
loop-l-preserved c =
    let count = c.loop-l.invariant.count in
    appends_one c.args.pipeline.now c.loop-l.pipeline c.append_log.new.self c.loop-l.l c.in_ok-append_log.field-0 c.requires.unfinished c.requires.resolved c.read_version.ensures.clocks
    c.loop-l.invariant (omega (arith, c.logs-l-end.ensures, c.loop-l-test.true, count)) c.in_ok-append_log.ensures.step
