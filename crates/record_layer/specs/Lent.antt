-- Cells that are lent.
use Rattle.std.specs.Prelude.{List, map}
use Rattle.metadata.specs.declared.cells.Cell.{Cell}
use Rattle.metadata.specs.declared.cells.Cell.TheVariants as cells
use Rattle.record_layer.specs.declared.cells.CellRef.{CellRef}
use Rattle.record_layer.specs.declared.cells.CellRef.TheVariants.{Null, Int, Text, Bytes}

-- the cell that is lent
abbrev pub lent_cell : CellRef → Cell
lent_cell Null = cells.Null
lent_cell (Int number) = cells.Int number
lent_cell (Text text) = cells.Text text.now
lent_cell (Bytes bytes) = cells.Bytes bytes.now

-- the cells that are lent, in order
abbrev pub lent_cells : List CellRef → List Cell
lent_cells lent = map lent_cell lent
