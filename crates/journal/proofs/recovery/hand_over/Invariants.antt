use Rattle.std.proofs.Common.{◌≡◌, ◌++◌, take}
use Rattle.journal.specs.Words.{bytes_of_each}
use Rattle.journal.proofs.recovery.hand_over.Given as goal

abbrev pub invariant-loop-entry : goal.invariant-loop-entry
invariant-loop-entry g l = g.S.Sink.took l.sink ≡ g.S.Sink.took l.fn.sink ++ bytes_of_each (take l.entry-index l.entries)
