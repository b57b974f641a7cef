use Rattle.std.proofs.Common.{◌≡◌, ◌++◌, take, All}
use Rattle.tuple_codec.specs.Elements.{items_in}
use Rattle.metadata.specs.Cell.{IsCell, items_of}
use Rattle.metadata.proofs.cells.Cells.push_elements.Given as goal

abbrev pub invariant-loop-cell : goal.invariant-loop-cell
invariant-loop-cell l = record {
  items : items_in l.elements.items ≡ items_in l.fn.elements.items ++ items_of (take l.cell-index l.cell-items);
  cells : All IsCell (take l.cell-index l.cell-items);
}
