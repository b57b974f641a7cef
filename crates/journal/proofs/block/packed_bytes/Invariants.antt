use Rattle.std.proofs.Common.{◌≡◌, take}
use Rattle.journal.specs.Form.{packed}
use Rattle.journal.specs.Words.{bytes_of_each}
use Rattle.journal.proofs.block.packed_bytes.Given as goal

abbrev pub invariant-loop-entry : goal.invariant-loop-entry
invariant-loop-entry l = l.bytes.items ≡ packed (bytes_of_each (take l.entry-index l.entries))
