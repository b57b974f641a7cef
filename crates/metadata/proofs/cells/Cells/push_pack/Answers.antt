use Rattle.metadata.proofs.CellSteps.{cells_more, packed_more}
use Rattle.metadata.proofs.cells.Cells.push_pack.Goals as goal

pub loop-cell-preserved : goal.loop-cell-preserved
loop-cell-preserved c = record {
  packed = packed_more c.loop-cell.out.items _ _ _ c.cell-item.result _ c.loop-cell-test.true c.cell-item.is c.in_ok-push_pack.ensures.packed c.loop-cell.invariant.packed;
  cells = cells_more _ _ c.cell-item.result c.loop-cell-test.true c.cell-item.is c.in_ok-push_pack.ensures.cell c.loop-cell.invariant.cells;
}
