use Rattle.std.proofs.Common.{refl, subst, sym}
use Rattle.txn.proofs.Exits.{exit_with}
use Rattle.txn.specs.declared.cursor.RangeCursor.{RangeCursor}
use Rattle.plan_exec.specs.Errors.{exec_read}
use Rattle.plan_exec.specs.Streams.{HasGiven, pair_course}
use Rattle.plan_exec.proofs.BatchCourses.{batch_fewer, stream_ended, stream_given, stream_gone, stream_not, used_up}
use Rattle.plan_exec.proofs.InBatches.{gave_batch, gave_none}
use Rattle.plan_exec.proofs.Streaming.{gone_given, gone_not, gone_then}
use Rattle.plan_exec.proofs.streams.PairStream.next_place.Goals as goal

pub returns-in_err-batch-clause-stopped : goal.returns-in_err-batch-clause-stopped
returns-in_err-batch-clause-stopped g c =
    exit_with c.from_residual.result (exec_read c.in_err-batch.field-0.0) _ c.from_residual.ensures
    (gone_not c.loop-self.invariant (stream_not c.loop-self.self (used_up c.loop-self.self c.len.result c.len.ensures c.loop-self-test.true) c.in_err-batch.field-0.0 c.in_err-batch.ensures.kept c.in_err-batch.ensures.refused))

pub loop-self-smaller : goal.loop-self-smaller
loop-self-smaller g c = batch_fewer (gave_batch (g.S.Snapshot.map_at c.args.db.now) c.in_ok-batch.field-0 c.in-Some.batch c.in-Some.is c.in_ok-batch.ensures.next)

pub loop-self-preserved : goal.loop-self-preserved
loop-self-preserved g c =
    gone_then c.loop-self.invariant
    (stream_gone c.loop-self.self (used_up c.loop-self.self c.len.result c.len.ensures c.loop-self-test.true) (record { cursor = c.next.new.self; batch = c.in-Some.batch; place = 0 }) c.in-Some.batch.items
    (gave_batch (g.S.Snapshot.map_at c.args.db.now) c.in_ok-batch.field-0 c.in-Some.batch c.in-Some.is c.in_ok-batch.ensures.next) refl)

pub returns-in-None-clause-given : goal.returns-in-None-clause-given
returns-in-None-clause-given g c =
    let none = c.in-None.is in
    let ended = gave_none (g.S.Snapshot.map_at c.args.db.now) c.in_ok-batch.field-0 (λ batch some. cc) c.in_ok-batch.ensures.next in
    subst (λ tx. HasGiven (g.S.Snapshot.map_at c.args.db.now) (pair_course c.args.self.now) _ (pair_course (record { cursor = c.next.new.self; batch = c.loop-self.self.batch; place = c.loop-self.self.place })) c.args.tx.now tx) (sym ended.2)
    (subst (λ (cursor : RangeCursor). HasGiven (g.S.Snapshot.map_at c.args.db.now) (pair_course c.args.self.now) _ (pair_course (record { cursor = cursor; batch = c.loop-self.self.batch; place = c.loop-self.self.place })) c.args.tx.now c.loop-self.tx) (sym ended.1)
    (gone_given _ c.loop-self.invariant (stream_ended c.loop-self.self (used_up c.loop-self.self c.len.result c.len.ensures c.loop-self-test.true) ended.0)))

pub returns-clause-given : goal.returns-clause-given
returns-clause-given g c = gone_given _ c.loop-self.invariant (stream_given c.loop-self.self c.len.result c.len.ensures c.loop-self-test.false)
