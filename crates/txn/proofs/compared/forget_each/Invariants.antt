use Rattle.std.proofs.Common.{◌≡◌, ℕ, List, [], cond, take}
use Rattle.kv_core.specs.Bytes.{has_key}
use Rattle.txn.specs.Own.{compared_at}
use Rattle.txn.proofs.compared.forget_each.Given as goal

-- the keys so far are forgotten, and the others are as before
abbrev pub invariant-loop-key : goal.invariant-loop-key
invariant-loop-key l = (key : List ℕ) → compared_at l.compared key ≡ cond (has_key (take l.key-index l.keys) key) [] (compared_at l.initial.compared key)
