use Rattle.std.proofs.Common.{◌≡◌, ℕ, List, Option, length}
use Rattle.kv_core.specs.Map.{value_after_all}
use Rattle.txn.proofs.latest.last_among.Given as goal

-- the mutations behind the rest leave the key alone
abbrev pub invariant-loop-last : goal.invariant-loop-last
invariant-loop-last l = (before : Option (List ℕ)) → value_after_all l.fn.mutations l.key before ≡ value_after_all l.rest l.key before

abbrev pub decreases-loop-last : goal.decreases-loop-last
decreases-loop-last l = length l.rest
