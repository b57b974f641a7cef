use Rattle.std.proofs.Common.{◌∙◌, refl}
use Rattle.plan_exec.proofs.EntryCells.{key_end, key_on, key_stop}
use Rattle.plan_exec.proofs.entries.is_key.Goals as goal

pub returns-in-None : goal.returns-in-None
returns-in-None c =
    key_stop c.args.kinds.now c.args.bytes.now c.loop-kind.kind-index _ _ c.loop-kind-test.true refl c.loop-kind.rest.now c.loop-kind.invariant (rw c.in-None.is at c.in_ok-after.ensures.none)

pub loop-kind-preserved : goal.loop-kind-preserved
loop-kind-preserved c =
    key_on c.args.kinds.now c.args.bytes.now c.loop-kind.kind-index _ _ c.loop-kind-test.true refl c.loop-kind.rest.now c.loop-kind.invariant c.in-Some.after.now (rw c.in-Some.is at c.in_ok-after.ensures.skipped)

pub returns : goal.returns
returns c = c.is_empty.ensures ∙ key_end c.args.kinds.now c.args.bytes.now c.loop-kind.kind-index c.loop-kind-test.false c.loop-kind.rest.now c.loop-kind.invariant
