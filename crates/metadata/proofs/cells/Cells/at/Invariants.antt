use Rattle.std.proofs.Common.{◌≡◌, take}
use Rattle.metadata.specs.Cell.{cells_at}
use Rattle.metadata.proofs.cells.Cells.at.Given as goal

abbrev pub invariant-loop-place : goal.invariant-loop-place
invariant-loop-place l = l.cells.items ≡ cells_at l.self (take l.place-index l.place-items)
