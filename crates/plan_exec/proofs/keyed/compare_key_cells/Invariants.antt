-- The places left decide as all do.
use Rattle.std.proofs.Common.{◌≡◌, drop}
use Rattle.metadata.specs.Cell.{cells_at}
use Rattle.metadata.specs.Order.{cells_cmp}
use Rattle.metadata.specs.Record.{key_cells}
use Rattle.plan_exec.proofs.keyed.compare_key_cells.Given as goal

abbrev pub invariant-loop-place : goal.invariant-loop-place
invariant-loop-place l =
    cells_cmp (cells_at l.cells (drop l.place-index l.place-items)) (cells_at l.other_cells l.other_places)
    ≡ cells_cmp (key_cells l.fn.one) (key_cells l.fn.other)
