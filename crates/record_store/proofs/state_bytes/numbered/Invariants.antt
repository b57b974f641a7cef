use Rattle.std.proofs.Common.{ℕ, take}
use Rattle.record_store.specs.Reading.{IsNumber}
use Rattle.record_store.proofs.state_bytes.numbered.Given as goal

abbrev pub invariant-loop-at : goal.invariant-loop-at
invariant-loop-at l = (number : ℕ) → IsNumber (take l.at l.indexes) l.bytes number → ⊥
