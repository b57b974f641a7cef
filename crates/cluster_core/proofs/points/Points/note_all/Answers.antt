use Rattle.cluster_core.proofs.Noting.{noted_more}
use Rattle.cluster_core.proofs.Putting.{put_end, put_over}
use Rattle.cluster_core.proofs.points.Points.note_all.Goals as goal

pub returns-in_err-note_mutation-clause-overlays : goal.returns-in_err-note_mutation-clause-overlays
returns-in_err-note_mutation-clause-overlays c =
    put_over c.args.mutations.now c.args.place c.loop-mutation.mutation-index c.args.self.now.segments c.loop-mutation.self.segments c.note_mutation.new.self.segments c.mutation-item.result
    c.loop-mutation-test.true c.mutation-item.is c.note_mutation.ensures.overlays c.loop-mutation.invariant.overlays

pub loop-mutation-preserved : goal.loop-mutation-preserved
loop-mutation-preserved c =
    noted_more c.args.part.now c.args.mutations.now c.args.place c.loop-mutation.mutation-index c.args.self.now c.loop-mutation.self c.note_mutation.new.self c.mutation-item.result
    c.loop-mutation-test.true c.mutation-item.is c.note_mutation.ensures.overlays c.in_ok-note_mutation.ensures.covered c.note_mutation.ensures.whole c.loop-mutation.invariant

pub returns-clause-covered : goal.returns-clause-covered
returns-clause-covered c = λ low.
    put_end c.args.part.now c.args.mutations.now c.args.place c.loop-mutation.mutation-index c.args.self.now.segments c.loop-mutation.self.segments c.loop-mutation-test.false
    (c.loop-mutation.invariant.so low)
