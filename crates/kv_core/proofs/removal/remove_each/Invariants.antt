use Rattle.std.proofs.Common.{◌≡◌, ℕ, List, None, cond, take}
use Rattle.std.specs.BTreeMap.{IsOrdered, get}
use Rattle.kv_core.specs.Bytes.{has_key, key_cmp}
use Rattle.kv_core.proofs.removal.remove_each.Given as goal

-- the keys so far are gone, and the others are as before
abbrev pub invariant-loop-key : goal.invariant-loop-key
invariant-loop-key l =
    ((key : List ℕ) → get key_cmp l.map key ≡ cond (has_key (take l.key-index l.keys) key) None (get key_cmp l.initial.map key)) × IsOrdered key_cmp l.map
