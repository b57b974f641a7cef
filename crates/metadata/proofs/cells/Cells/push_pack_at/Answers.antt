use Rattle.std.proofs.Common.{refl}
use Rattle.metadata.proofs.CellSteps.{known_at_more, packed_at_more}
use Rattle.metadata.proofs.cells.Cells.push_pack_at.Goals as goal

pub loop-place-preserved : goal.loop-place-preserved
loop-place-preserved c = record {
  packed = packed_at_more c.loop-place.out.items _ c.args.self.now c.as_slice-place-items.result.now c.loop-place.place-index _ c.args.out.now.items c.loop-place-test.true refl c.in_ok-push_cell_at.ensures.packed c.loop-place.invariant.packed;
  cells = known_at_more c.args.self.now c.as_slice-place-items.result.now c.loop-place.place-index _ c.loop-place-test.true refl c.in_ok-push_cell_at.ensures.cell c.loop-place.invariant.cells;
}
