use Rattle.std.proofs.Common.{length}
use Rattle.kv_core.proofs.Retracing.{WalksBack}
use Rattle.kv_core.proofs.coverage.first_before.Given as goal

-- the walk has come to the place
abbrev pub invariant-loop-begin : goal.invariant-loop-begin
invariant-loop-begin l = WalksBack l.stretches.entries l.earlier l.key l.place

abbrev pub decreases-loop-begin : goal.decreases-loop-begin
decreases-loop-begin l = length l.earlier
