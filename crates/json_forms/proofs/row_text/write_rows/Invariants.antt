use Rattle.std.proofs.Common.{All, take}
use Rattle.metadata.specs.Cell.{IsCell}
use Rattle.json_forms.specs.RowText.{IsListBegun, row_json}
use Rattle.json_forms.proofs.row_text.write_rows.Given as goal

abbrev pub invariant-loop-place : goal.invariant-loop-place
invariant-loop-place l = record {
  written : IsListBegun row_json (take l.place l.rows) l.fn.out l.out;
  known : All (All IsCell) (take l.place l.rows);
}
