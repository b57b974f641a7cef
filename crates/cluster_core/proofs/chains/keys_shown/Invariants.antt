use Rattle.std.proofs.Common.{◌≡◌, ◌++◌}
use Rattle.std.specs.List.{AllByRecursion}
use Rattle.std.specs.Map.{keys_of}
use Rattle.cluster_core.specs.Chains.{IsFalling, links_of}
use Rattle.cluster_core.proofs.Shown.{chains_in, pairs_shown}
use Rattle.cluster_core.proofs.chains.keys_shown.Given as goal

-- the keys so far and those that are left are those of the range that have a value
abbrev pub invariant-loop-key : goal.invariant-loop-key
invariant-loop-key l = record {
  keys : l.keys.items ++ keys_of (pairs_shown l.version l.key-iterator) ≡ keys_of (pairs_shown l.version (chains_in l.range l.chains.entries));
  falling : AllByRecursion (λ e. IsFalling (links_of e.1)) l.key-iterator;
}
