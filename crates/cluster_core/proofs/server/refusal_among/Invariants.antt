use Rattle.std.proofs.Common.{◌≡◌, drop, map}
use Rattle.cluster_core.specs.Server.{owner_of, server_state}
use Rattle.cluster_core.specs.Tier.{first_refusal}
use Rattle.cluster_core.proofs.server.refusal_among.Given as goal

-- the servers that are left refuse as all do
abbrev pub invariant-loop-server : goal.invariant-loop-server
invariant-loop-server l =
    first_refusal l.window l.range l.version (map owner_of (drop l.server-index l.servers)) (map server_state (drop l.server-index l.servers))
    ≡ first_refusal l.window l.range l.version (map owner_of l.servers) (map server_state l.servers)
