use Rattle.std.proofs.Common.{◌≡◌, take}
use Rattle.record_layer.specs.Lent.{lent_cells}
use Rattle.record_layer.proofs.cells.cells_of.Given as goal

abbrev pub invariant-loop-one : goal.invariant-loop-one
invariant-loop-one l = l.cells.items ≡ lent_cells (take l.one-index l.lent)
