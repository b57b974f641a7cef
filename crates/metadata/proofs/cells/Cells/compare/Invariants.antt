use Rattle.std.proofs.Common.{◌≡◌, drop}
use Rattle.metadata.specs.Order.{cells_cmp}
use Rattle.metadata.proofs.cells.Cells.compare.Given as goal

abbrev pub invariant-loop-cell : goal.invariant-loop-cell
invariant-loop-cell l = cells_cmp (drop l.cell-index l.cell-items) l.others ≡ cells_cmp l.self l.other
