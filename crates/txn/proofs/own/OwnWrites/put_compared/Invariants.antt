use Rattle.std.proofs.Common.{◌≡◌, ℕ, List, cond, take}
use Rattle.std.specs.FinMap.{get}
use Rattle.kv_core.specs.Bytes.{has_key}
use Rattle.txn.specs.Own.{own_state, under}
use Rattle.txn.proofs.own.OwnWrites.put_compared.Given as goal

-- the keys so far have their values, and the others have what they had
abbrev pub invariant-loop-key : goal.invariant-loop-key
invariant-loop-key l = (key : List ℕ) → get l.laid key ≡ cond (has_key (take l.key-index l.keys) key) (under (own_state l.self) key (get l.left key)) (get l.fn.map key)
