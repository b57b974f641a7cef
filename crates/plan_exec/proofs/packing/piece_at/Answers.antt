use Rattle.std.proofs.Common.{◌≤◌, arith, length}
use Rattle.plan_exec.proofs.Pieces.{piece_there}
use Rattle.plan_exec.proofs.packing.piece_at.Goals as goal

pub returns-in-Some-2 : goal.returns-in-Some-2
returns-in-Some-2 c =
    let within : c.args.place ≤ length c.args.kinds.now = omega (arith, c.if-place-kinds.false) in
    piece_there c.args.kinds.now c.args.place _ c.args.value.now c.in-Some.from.now c.in-Some-2.after.now within
    (rw c.in-Some.is at c.in_ok-from.ensures) (rw c.in-Some-2.is at c.in_ok-after.ensures.skipped)
