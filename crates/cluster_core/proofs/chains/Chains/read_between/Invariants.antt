use Rattle.std.proofs.Common.{◌≡◌, ◌++◌, ◌-◌, length, take}
use Rattle.std.specs.List.{AllByRecursion}
use Rattle.cluster_core.specs.Chains.{IsFalling, links_of}
use Rattle.cluster_core.specs.Server.{turned}
use Rattle.cluster_core.proofs.Shown.{chains_in, pairs_shown}
use Rattle.cluster_core.proofs.chains.Chains.read_between.Given as goal

-- the pairs so far and the first of those that are left are what is asked for
abbrev pub invariant-loop-rest : goal.invariant-loop-rest
invariant-loop-rest l = record {
  pairs : l.pairs.items ++ take (l.limit - length l.pairs.items) (pairs_shown l.version (turned l.reverse l.rest)) ≡ take l.limit (pairs_shown l.version (turned l.reverse (chains_in l.range l.self.chains.entries)));
  falling : AllByRecursion (λ e. IsFalling (links_of e.1)) (turned l.reverse l.rest);
}

abbrev pub decreases-loop-rest : goal.decreases-loop-rest
decreases-loop-rest l = length l.rest
