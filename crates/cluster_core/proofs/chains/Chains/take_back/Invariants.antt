use Rattle.std.proofs.Common.{◌≡◌, [], List, ℕ, cond, take}
use Rattle.kv_core.specs.Bytes.{has_key}
use Rattle.cluster_core.specs.Chains.{links_at, without}
use Rattle.cluster_core.proofs.chains.Chains.take_back.Given as goal

-- the keys so far have nothing of the version
abbrev pub invariant-loop-key : goal.invariant-loop-key
invariant-loop-key l = record {
  taken : (q : List ℕ) → links_at l.self.chains q ≡ cond (has_key (take l.key-index l.key-items) q) (without l.version (links_at l.initial.self.chains q)) (links_at l.initial.self.chains q);
  written : l.self.written.items ≡ [];
}
