use Rattle.cluster_core.proofs.Noting.{NotedSo}
use Rattle.cluster_core.proofs.points.Points.note_all.Given as goal

-- the mutations so far are noted under the place
abbrev pub invariant-loop-mutation : goal.invariant-loop-mutation
invariant-loop-mutation l = NotedSo l.part l.mutations l.place l.mutation-index l.initial.self l.self
