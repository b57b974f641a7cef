use Rattle.std.proofs.Common.{◌-◌, length}
use Rattle.txn.specs.Latest.{NotesFirst}
use Rattle.txn.proofs.latest.Latest.catch_up.Given as goal

abbrev pub invariant-loop-self : goal.invariant-loop-self
invariant-loop-self l = NotesFirst l.self l.mutations

abbrev pub decreases-loop-self : goal.decreases-loop-self
decreases-loop-self l = length l.mutations - l.self.noted
