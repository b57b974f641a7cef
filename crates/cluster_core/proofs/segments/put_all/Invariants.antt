use Rattle.cluster_core.proofs.Putting.{PutSo}
use Rattle.cluster_core.proofs.segments.put_all.Given as goal

-- the mutations so far are put under the place
abbrev pub invariant-loop-mutation : goal.invariant-loop-mutation
invariant-loop-mutation l = PutSo l.part l.mutations l.place l.mutation-index l.initial.segments l.segments
