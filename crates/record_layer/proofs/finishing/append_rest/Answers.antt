use Rattle.std.proofs.Common.{arith, refl}
use Rattle.cluster_core.specs.Roles.{may_append, append}
use Rattle.commits.proofs.GoingOn.{appends_one, appending_first}
use Rattle.commits.proofs.Handling.{stood-both}
use Rattle.record_layer.proofs.Settling.{did_pipeline, did_stood}
use Rattle.record_layer.proofs.finishing.append_rest.Goals as goal

pub loop-l-init : goal.loop-l-init
loop-l-init c = (appending_first c.args.cluster.now.pipeline, refl)

pub loop-l-preserved : goal.loop-l-preserved
loop-l-preserved c =
    let was = c.loop-l.cluster in
    let work = c.in_ok-append_log.field-0 in
    let may = may_append was.pipeline c.loop-l.l in
    let next = append c.loop-l.l was.pipeline in
    let count = c.loop-l.invariant.0.count in (
      appends_one c.args.cluster.now.pipeline was.pipeline c.append_log.new.self.pipeline c.loop-l.l work c.requires.unfinished c.requires.resolved c.read_version.ensures.clocks
          c.loop-l.invariant.0 (omega (arith, c.logs-l-end.ensures, c.loop-l-test.true, count)) (did_pipeline work may was c.append_log.new.self next c.in_ok-append_log.ensures.step),
      stood-both c.args.cluster.now was c.append_log.new.self c.loop-l.invariant.1 (did_stood work may was c.append_log.new.self next c.in_ok-append_log.ensures.step),
    )
