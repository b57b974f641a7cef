use Rattle.std.proofs.Common.{length}
use Rattle.json_forms.specs.CellJson.{cell_in}
use Rattle.json_forms.proofs.InTurn.{IsReadTo}
use Rattle.json_forms.proofs.in_turn.rest_of_cells.Given as goal

abbrev pub invariant-cells : goal.invariant-cells
invariant-cells l = IsReadTo cell_in l.depth l.initial.reader l.reader l.cells.items

abbrev pub decreases-cells : goal.decreases-cells
decreases-cells l = length l.reader
