use Rattle.std.proofs.Common.{arith}
use Rattle.commits.proofs.GoingOn.{resolves_one, resolving_first}
use Rattle.commits.proofs.finishing.resolve_rest.Goals as goal

pub loop-r-init : goal.loop-r-init
loop-r-init c = resolving_first c.args.pipeline.now

pub loop-r-preserved : goal.loop-r-preserved
loop-r-preserved c =
    let count = c.loop-r.invariant.count in
    resolves_one c.args.pipeline.now c.loop-r.pipeline c.resolve.new.self c.loop-r.r c.in_ok-resolve.field-0 c.requires c.read_version.ensures.clocks
    c.loop-r.invariant (omega (arith, c.resolvers-r-end.ensures, c.loop-r-test.true, count)) c.in_ok-resolve.ensures.step
