use Rattle.std.proofs.Common.{◌≡◌, take}
use Rattle.std.specs.List.{flat_map}
use Rattle.cluster_core.specs.Server.{pairs_at, turned}
use Rattle.cluster_core.proofs.server.read_each.Given as goal

-- the pairs so far are what the servers so far give, up to the limit
abbrev pub invariant-loop-passed : goal.invariant-loop-passed
invariant-loop-passed l = l.pairs.items ≡ take l.limit (flat_map (pairs_at l.range l.version l.reverse) (take l.passed (turned l.reverse l.servers)))
