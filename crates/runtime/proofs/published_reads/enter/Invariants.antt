use Rattle.std.proofs.Common.{◌≡◌}
use Rattle.left_right.specs.Sides.{view as knowledge}
use Rattle.runtime.proofs.published_reads.enter.Given as goal

abbrev pub invariant-loop : goal.invariant-loop
invariant-loop l = knowledge l.reader.place ≡ knowledge l.initial.reader.place
