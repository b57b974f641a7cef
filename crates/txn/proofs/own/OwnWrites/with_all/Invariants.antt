use Rattle.std.proofs.Common.{◌≡◌, ℕ, List, Option, drop}
use Rattle.kv_core.specs.Map.{value_after_all}
use Rattle.txn.specs.Own.{own_state, under}
use Rattle.txn.proofs.own.OwnWrites.with_all.Given as goal

-- the mutations that are left lead from the own writes so far to where all lead from the first ones
abbrev pub invariant-loop-mutation : goal.invariant-loop-mutation
invariant-loop-mutation l =
    (key : List ℕ) (before : Option (List ℕ)) →
    value_after_all (drop l.mutation-index l.mutations) key (under (own_state l.own) key before) ≡ value_after_all l.mutations key (under (own_state l.fn.self) key before)
