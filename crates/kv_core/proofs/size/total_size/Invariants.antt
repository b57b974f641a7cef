use Rattle.std.proofs.Common.{◌≡◌, ◌+◌, ◌≤◌, drop}
use Rattle.kv_core.specs.declared.limits.TheConstants.{MAX_TRANSACTION_BYTES}
use Rattle.kv_core.specs.Limits.{refusal_after, size_of_all}
use Rattle.kv_core.proofs.size.total_size.Given as goal

-- what is left is refused after the bytes so far as all is after those of before
abbrev pub invariant-loop-mutation : goal.invariant-loop-mutation
invariant-loop-mutation l =
    (l.total ≤ MAX_TRANSACTION_BYTES) × (l.total + size_of_all (drop l.mutation-index l.mutations) ≡ l.fn.before + size_of_all l.mutations)
    × (refusal_after l.total (drop l.mutation-index l.mutations) ≡ refusal_after l.fn.before l.mutations)
