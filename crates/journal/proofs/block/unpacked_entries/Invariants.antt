use Rattle.std.proofs.Common.{◌≡◌, ◌≤◌, ◌-◌, ◌++◌, length, drop}
use Rattle.journal.specs.Block.{first_entries, entries_packed}
use Rattle.journal.specs.Words.{bytes_of_each}
use Rattle.journal.proofs.block.unpacked_entries.Given as goal

abbrev pub invariant-loop-len : goal.invariant-loop-len
invariant-loop-len l = record {
  so_far : bytes_of_each l.entries.items ++ first_entries (length l.bytes - length l.entries.items) (drop l.at l.bytes) ≡ entries_packed l.bytes;
  within : l.at ≤ length l.bytes;
  few : length l.entries.items ≤ l.at;
}

abbrev pub decreases-loop-len : goal.decreases-loop-len
decreases-loop-len l = length l.bytes - l.at
