use Rattle.std.proofs.Common.{drop}
use Rattle.plan_exec.proofs.Pieces.{AreLeft}
use Rattle.plan_exec.proofs.packing.are_pieces.Given as goal

abbrev pub invariant-loop-place : goal.invariant-loop-place
invariant-loop-place l = AreLeft l.value l.places l.fn.pieces (drop l.place-index l.places) l.rest
