use Rattle.std.proofs.Common.{◌≡◌, ℕ, List, Option, Some, length}
use Rattle.kv_core.specs.Addition.{added}
use Rattle.txn.specs.Own.{sum_over}
use Rattle.txn.proofs.sum.Sum.plus.Given as goal

-- the operands so far and the last one make the sum with the new operand
abbrev pub invariant-loop-earlier : goal.invariant-loop-earlier
invariant-loop-earlier l = (before : Option (List ℕ)) → added (Some (sum_over l.operands.items before)) l.last ≡ added (Some (sum_over l.fn.self before)) l.operand

abbrev pub decreases-loop-earlier : goal.decreases-loop-earlier
decreases-loop-earlier l = length l.operands.items
