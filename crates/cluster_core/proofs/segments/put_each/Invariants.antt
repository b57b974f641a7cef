use Rattle.cluster_core.proofs.Putting.{EachSo}
use Rattle.cluster_core.proofs.segments.put_each.Given as goal

-- the requests at the places so far are put under their places
abbrev pub invariant-loop-place : goal.invariant-loop-place
invariant-loop-place l = EachSo l.part l.requests.all l.least l.places l.place-index l.initial.segments l.segments
