use Rattle.std.proofs.Common.{length}
use Rattle.bench.proofs.call_rows.write_pack.Given as goal

abbrev pub decreases-loop-cell : goal.decreases-loop-cell
decreases-loop-cell g l = length l.rest
