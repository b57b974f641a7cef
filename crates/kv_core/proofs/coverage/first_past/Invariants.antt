use Rattle.kv_core.proofs.Reaching.{WalksOn}
use Rattle.kv_core.proofs.coverage.first_past.Given as goal

-- the walk has reached the place
abbrev pub invariant-loop-begin : goal.invariant-loop-begin
invariant-loop-begin l = WalksOn l.stretches.entries l.begin-iterator l.key l.place
