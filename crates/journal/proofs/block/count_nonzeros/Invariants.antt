use Rattle.std.proofs.Common.{◌≡◌, ◌≤◌, take}
use Rattle.journal.specs.Form.{nonzeros}
use Rattle.journal.proofs.block.count_nonzeros.Given as goal

abbrev pub invariant-loop-byte : goal.invariant-loop-byte
invariant-loop-byte l = record { so_far : l.count ≡ nonzeros (take l.byte-index l.bytes); few : l.count ≤ l.byte-index }
