use Rattle.std.proofs.Common.{◌≡◌, ◌++◌, take, All}
use Rattle.tuple_codec.specs.Spelling.{spelling}
use Rattle.metadata.specs.Cell.{IsCell, cells_at, items_of}
use Rattle.metadata.proofs.cells.Cells.push_pack_at.Given as goal

abbrev pub invariant-loop-place : goal.invariant-loop-place
invariant-loop-place l = record {
  packed : l.out.items ≡ l.fn.out.items ++ spelling (items_of (cells_at l.self (take l.place-index l.place-items)));
  cells : All IsCell (cells_at l.self (take l.place-index l.place-items));
}
