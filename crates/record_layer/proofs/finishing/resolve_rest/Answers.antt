use Rattle.std.proofs.Common.{arith, refl}
use Rattle.cluster_core.specs.Roles.{may_resolve, resolve}
use Rattle.commits.proofs.GoingOn.{resolves_one, resolving_first}
use Rattle.commits.proofs.Handling.{stood-both}
use Rattle.record_layer.proofs.Settling.{did_pipeline, did_stood}
use Rattle.record_layer.proofs.finishing.resolve_rest.Goals as goal

pub loop-r-init : goal.loop-r-init
loop-r-init c = (resolving_first c.args.cluster.now.pipeline, refl)

pub loop-r-preserved : goal.loop-r-preserved
loop-r-preserved c =
    let was = c.loop-r.cluster in
    let work = c.in_ok-resolve.field-0 in
    let may = may_resolve was.pipeline c.loop-r.r in
    let next = resolve c.loop-r.r was.pipeline in
    let count = c.loop-r.invariant.0.count in (
      resolves_one c.args.cluster.now.pipeline was.pipeline c.resolve.new.self.pipeline c.loop-r.r work c.requires c.read_version.ensures.clocks
          c.loop-r.invariant.0 (omega (arith, c.resolvers-r-end.ensures, c.loop-r-test.true, count)) (did_pipeline work may was c.resolve.new.self next c.in_ok-resolve.ensures.step),
      stood-both c.args.cluster.now was c.resolve.new.self c.loop-r.invariant.1 (did_stood work may was c.resolve.new.self next c.in_ok-resolve.ensures.step),
    )
