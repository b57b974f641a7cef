use Rattle.std.proofs.Common.{◌≡◌, Some, drop}
use Rattle.txn.specs.Own.{sum_over}
use Rattle.txn.proofs.sum.total_of.Given as goal

-- the operands that are left lead from the sum so far to where all lead from the first value
abbrev pub invariant-loop-operand : goal.invariant-loop-operand
invariant-loop-operand l = sum_over (drop l.operand-index l.operands) (Some l.sum) ≡ sum_over l.operands (Some l.fn.value)
