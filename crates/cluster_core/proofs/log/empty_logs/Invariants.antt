use Rattle.std.proofs.Common.{◌≡◌, [], replicate}
use Rattle.cluster_core.proofs.log.empty_logs.Given as goal

-- so many logs are made
abbrev pub invariant-loop : goal.invariant-loop
invariant-loop l = l.logs.items ≡ replicate l.counter []
