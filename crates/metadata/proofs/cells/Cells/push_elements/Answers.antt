use Rattle.metadata.proofs.CellSteps.{elements_more, cells_more}
use Rattle.metadata.proofs.cells.Cells.push_elements.Goals as goal

pub loop-cell-preserved : goal.loop-cell-preserved
loop-cell-preserved c = record {
  items = elements_more c.loop-cell.elements.items _ c.in_ok-element.field-0 _ _ c.cell-item.result _ c.loop-cell-test.true c.cell-item.is c.in_ok-push.ensures.items c.in_ok-element.ensures.element c.loop-cell.invariant.items;
  cells = cells_more _ _ c.cell-item.result c.loop-cell-test.true c.cell-item.is c.in_ok-element.ensures.cell c.loop-cell.invariant.cells;
}
