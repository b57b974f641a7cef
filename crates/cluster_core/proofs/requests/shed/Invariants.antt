use Rattle.std.proofs.Common.{◌≡◌, drop}
use Rattle.cluster_core.proofs.requests.shed.Given as goal

-- so many of the first items are dropped
abbrev pub invariant-loop : goal.invariant-loop
invariant-loop g l = l.items.items ≡ drop l.counter l.initial.items.items
