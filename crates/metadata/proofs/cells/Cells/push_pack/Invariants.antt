use Rattle.std.proofs.Common.{◌≡◌, ◌++◌, take, All}
use Rattle.tuple_codec.specs.Spelling.{spelling}
use Rattle.metadata.specs.Cell.{IsCell, items_of}
use Rattle.metadata.proofs.cells.Cells.push_pack.Given as goal

abbrev pub invariant-loop-cell : goal.invariant-loop-cell
invariant-loop-cell l = record {
  packed : l.out.items ≡ l.fn.out.items ++ spelling (items_of (take l.cell-index l.cell-items));
  cells : All IsCell (take l.cell-index l.cell-items);
}
