use Rattle.std.proofs.Common.{◌≡◌, None, List, ℕ, cond, take}
use Rattle.kv_core.specs.Bytes.{has_key}
use Rattle.cluster_core.specs.Chains.{Writes, links_at, value_at}
use Rattle.cluster_core.proofs.chains.Chains.clear.Given as goal

-- the keys so far have no value, the others have what they had, and the list has those that were written
abbrev pub invariant-loop-key : goal.invariant-loop-key
invariant-loop-key l = record {
  none : (q : List ℕ) → value_at l.version (links_at l.self.chains q) ≡ cond (has_key (take l.key-index l.key-items) q) None (value_at l.version (links_at l.initial.self.chains q));
  writes : Writes l.version l.initial.self.written.items l.initial.self.chains l.self.written.items l.self.chains;
}
