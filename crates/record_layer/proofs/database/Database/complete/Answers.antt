use Rattle.std.proofs.Common.{arith}
use Rattle.std.specs.Fn.{CalledAtMut}
use Rattle.record_layer.proofs.Completing.{gave_up, had_another, had_no_other, is_committed}
use Rattle.record_layer.proofs.database.Database.complete.Goals as goal

pub returns-in-Ok-clause-completed : goal.returns-in-Ok-clause-completed
returns-in-Ok-clause-completed g c =
    is_committed (CalledAtMut g.F.FnMut) c.args.retry.limit c.loop-version.number _ _ c.loop-version.invariant.1 c.loop-version.invariant.2 c.loop-version.invariant.3 c.in-Ok.version c.commit.new.self
    (record { taken = c.in-Ok.ensures.allowed; finished = c.in-Ok.ensures.handled; decided = c.in-Ok.ensures.committed })

pub returns-in_default-clause-completed : goal.returns-in_default-clause-completed
returns-in_default-clause-completed g c =
    gave_up (CalledAtMut g.F.FnMut) c.args.retry.limit c.loop-version.number _ _ c.loop-version.invariant.1 c.loop-version.invariant.2 c.loop-version.invariant.3 c.in-Err.why c.commit.new.self c.in-Err.ensures.refused c.ended_uncommitted.result c.ended_uncommitted.ensures c.next.result c.next.ensures.again c.in_default.not-Again

pub returns-in-Err-attempt-clause-completed : goal.returns-in-Err-attempt-clause-completed
returns-in-Err-attempt-clause-completed g c =
    had_no_other (CalledAtMut g.F.FnMut) c.args.retry.limit c.loop-version.number _ _ c.loop-version.invariant.1 c.loop-version.invariant.2 c.loop-version.invariant.3 c.in-Err.why c.commit.new.self c.in-Err.ensures.refused c.ended_uncommitted.result c.ended_uncommitted.ensures c.next.result c.next.ensures.again c.in-Again.is c.in-Err-attempt.error c.attempt.new.work c.in-Err-attempt.ensures.refused

pub loop-version-preserved : goal.loop-version-preserved
loop-version-preserved g c = (
  c.in-Ok-attempt.ensures.always,
  omega (arith),
  omega (arith, (c.next.ensures.again.0 c.in-Again.is).0),
  had_another (CalledAtMut g.F.FnMut) c.args.retry.limit c.loop-version.number _ _ c.loop-version.invariant.1 c.loop-version.invariant.2 c.loop-version.invariant.3 c.in-Err.why c.commit.new.self c.in-Err.ensures.refused c.ended_uncommitted.result c.ended_uncommitted.ensures c.next.result c.next.ensures.again c.in-Again.is c.in-Ok-attempt.left.0 c.in-Ok-attempt.left.1 c.attempt.new.work c.in-Ok-attempt.ensures.made,
)
