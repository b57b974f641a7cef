use Rattle.cluster_core.proofs.Noting.{EachNoted}
use Rattle.cluster_core.proofs.points.Points.note_each.Given as goal

-- the requests at the places so far are noted under their places
abbrev pub invariant-loop-place : goal.invariant-loop-place
invariant-loop-place l = EachNoted l.part l.requests.all l.least l.places l.place-index l.initial.self l.self
