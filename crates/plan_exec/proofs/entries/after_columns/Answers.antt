use Rattle.std.proofs.Common.{refl}
use Rattle.plan_exec.proofs.EntryCells.{begins_behind, columns_end, columns_on, columns_stop}
use Rattle.plan_exec.proofs.entries.after_columns.Goals as goal

pub loop-kind-init : goal.loop-kind-init
loop-kind-init c = begins_behind c.args.kinds.now c.args.bytes.now

pub returns-in-None : goal.returns-in-None
returns-in-None c =
    columns_stop c.args.kinds.now c.args.bytes.now c.loop-kind.kind-index _ _ c.loop-kind-test.true refl c.loop-kind.rest.now c.loop-kind.invariant (rw c.in-None.is at c.in_ok-after.ensures.none)

pub loop-kind-preserved : goal.loop-kind-preserved
loop-kind-preserved c =
    columns_on c.args.kinds.now c.args.bytes.now c.loop-kind.kind-index _ _ c.loop-kind-test.true refl c.loop-kind.rest.now c.loop-kind.invariant c.in-Some.after.now (rw c.in-Some.is at c.in_ok-after.ensures.skipped)

pub returns : goal.returns
returns c = columns_end c.args.kinds.now c.args.bytes.now c.loop-kind.kind-index c.loop-kind-test.false c.loop-kind.rest.now c.loop-kind.invariant
