use Rattle.std.proofs.Common.{All, take}
use Rattle.metadata.specs.Cell.{IsCell}
use Rattle.json_forms.specs.RowText.{IsListBegun, cell_json}
use Rattle.json_forms.proofs.row_text.write_cells.Given as goal

abbrev pub invariant-loop-cell : goal.invariant-loop-cell
invariant-loop-cell l = record {
  written : IsListBegun cell_json (take l.cell-index l.cell-items) l.fn.out l.out;
  known : All IsCell (take l.cell-index l.cell-items);
}
