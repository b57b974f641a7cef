use Rattle.std.proofs.Common.{length}
use Rattle.json_forms.proofs.Packed.{AreWritten}
use Rattle.json_forms.proofs.row_text.write_pack.Given as goal

abbrev pub invariant-loop-cell : goal.invariant-loop-cell
invariant-loop-cell l = AreWritten l.fn.pack l.rest l.fn.out l.out

abbrev pub decreases-loop-cell : goal.decreases-loop-cell
decreases-loop-cell l = length l.rest
