use Rattle.std.proofs.Common.{length}
use Rattle.metadata.proofs.Unpacks.{GoesOn}
use Rattle.metadata.proofs.cells.Cells.unpack_about.Given as goal

abbrev pub invariant-loop-rest : goal.invariant-loop-rest
invariant-loop-rest l = GoesOn l.fn.bytes l.found.items l.rest

abbrev pub decreases-loop-rest : goal.decreases-loop-rest
decreases-loop-rest l = length l.rest
