use Rattle.std.proofs.Common.{◌≡◌, take, All}
use Rattle.tuple_codec.proofs.plain.plain_count.Given as goal

abbrev pub invariant-loop-byte : goal.invariant-loop-byte
invariant-loop-byte l = (l.count ≡ l.byte-index) × All (λ b. b ≡ 0 → ⊥) (take l.byte-index l.bytes)
