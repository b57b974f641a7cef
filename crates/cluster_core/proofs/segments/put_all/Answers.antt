use Rattle.cluster_core.proofs.Putting.{put_end, put_more, put_over}
use Rattle.cluster_core.proofs.segments.put_all.Goals as goal

pub returns-in_err-put_mutation-clause-overlays : goal.returns-in_err-put_mutation-clause-overlays
returns-in_err-put_mutation-clause-overlays c =
    put_over c.args.mutations.now c.args.place c.loop-mutation.mutation-index c.args.segments.now c.loop-mutation.segments c.put_mutation.new.segments c.mutation-item.result
    c.loop-mutation-test.true c.mutation-item.is c.put_mutation.ensures.overlays c.loop-mutation.invariant.overlays

pub loop-mutation-preserved : goal.loop-mutation-preserved
loop-mutation-preserved c =
    put_more c.args.part.now c.args.mutations.now c.args.place c.loop-mutation.mutation-index c.args.segments.now c.loop-mutation.segments c.put_mutation.new.segments c.mutation-item.result
    c.loop-mutation-test.true c.mutation-item.is c.put_mutation.ensures.overlays c.in_ok-put_mutation.ensures.covered c.loop-mutation.invariant

pub returns-clause-covered : goal.returns-clause-covered
returns-clause-covered c =
    put_end c.args.part.now c.args.mutations.now c.args.place c.loop-mutation.mutation-index c.args.segments.now c.loop-mutation.segments c.loop-mutation-test.false c.loop-mutation.invariant
