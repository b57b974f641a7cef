use Rattle.packed_rows.proofs.Pieces.{unpacked}
use Rattle.packed_rows.proofs.rows.Rows.cells_at.Goals as goal

pub returns : goal.returns
returns c =
    let are = rw c.in-Some-2.is at c.in_ok-cells.ensures.found in
    unpacked c.args.self.now c.args.place c.in-Some.pack.now c.in-Some-2.cells c.in-Some.ensures.found are
