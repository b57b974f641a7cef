use Rattle.std.proofs.Common.{◌≡◌, drop}
use Rattle.kv_core.specs.Map.{after_all}
use Rattle.cluster_core.specs.Chains.{Writes, shown}
use Rattle.cluster_core.specs.Tier.{part}
use Rattle.cluster_core.proofs.server.apply_own.Given as goal

-- the map is of the part's keys, the mutations that are left make of it the part that all make, and the list has what was
-- written
abbrev pub invariant-loop-mutation : goal.invariant-loop-mutation
invariant-loop-mutation l = record {
  own : part l.owner (shown l.chains.chains.entries l.version) ≡ shown l.chains.chains.entries l.version;
  rest : part l.owner (after_all (drop l.mutation-index l.mutations) (shown l.chains.chains.entries l.version)) ≡ part l.owner (after_all l.mutations (shown l.initial.chains.chains.entries l.version));
  writes : Writes l.version l.initial.chains.written.items l.initial.chains.chains l.chains.written.items l.chains.chains;
}
