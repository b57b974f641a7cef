use Rattle.std.proofs.Common.{◌≡◌, List, ℕ, cond, take}
use Rattle.kv_core.specs.Bytes.{has_key}
use Rattle.cluster_core.specs.Chains.{links_at, needed}
use Rattle.cluster_core.proofs.chains.Chains.settle.Given as goal

-- the keys so far have what is needed alone
abbrev pub invariant-loop-key : goal.invariant-loop-key
invariant-loop-key l = record {
  settled : (q : List ℕ) → links_at l.self.chains q ≡ cond (has_key (take l.key-index l.keys) q) (needed l.floor (links_at l.initial.self.chains q)) (links_at l.initial.self.chains q);
  written : l.self.written.items ≡ l.initial.self.written.items;
}
