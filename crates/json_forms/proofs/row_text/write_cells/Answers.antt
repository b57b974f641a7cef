use Rattle.std.proofs.Common.{◌∙◌, take}
use Rattle.std.proofs.lemmas.List.{take_all}
use Rattle.std.proofs.lemmas.Result.{on_ok_weaker}
use Rattle.metadata.specs.Cell.{IsCell}
use Rattle.json_forms.specs.RowText.{cell_json}
use Rattle.json_forms.proofs.RowTexts.{begun_more, closed, known_more}
use Rattle.json_forms.proofs.row_text.write_cells.Goals as goal

pub loop-cell-preserved : goal.loop-cell-preserved
loop-cell-preserved c = record {
  written = begun_more cell_json c.as_slice-cell-items.result.now c.loop-cell.cell-index c.cell-item.result c.args.out.now c.loop-cell.out c.write_cell.new.out c.loop-cell-test.true c.cell-item.is c.loop-cell.invariant.written c.in_ok-write_cell.ensures.written;
  known = known_more IsCell c.as_slice-cell-items.result.now c.loop-cell.cell-index c.cell-item.result c.loop-cell-test.true c.cell-item.is c.in_ok-write_cell.ensures.known c.loop-cell.invariant.known;
}

pub returns-clause-written : goal.returns-clause-written
returns-clause-written c =
    on_ok_weaker c.end_array.result
    (λ e. closed cell_json c.args.cells.now (take c.loop-cell.cell-index c.as_slice-cell-items.result.now) c.args.out.now c.loop-cell.out c.end_array.new.self
    (take_all c.loop-cell.cell-index c.as_slice-cell-items.result.now c.loop-cell-test.false ∙ c.as_slice-cell-items.ensures) c.loop-cell.invariant.written e c.end_array.ensures.room.0) c.end_array.ensures.ok
