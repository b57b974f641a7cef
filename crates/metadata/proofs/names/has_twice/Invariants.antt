use Rattle.std.proofs.Common.{◌≡◌, length}
use Rattle.metadata.specs.Change.{has_twice}
use Rattle.metadata.proofs.names.has_twice.Given as goal

abbrev pub invariant-loop-first : goal.invariant-loop-first
invariant-loop-first g l = has_twice g.T.Same.same l.rest ≡ has_twice g.T.Same.same l.items

abbrev pub decreases-loop-first : goal.decreases-loop-first
decreases-loop-first g l = length l.rest
