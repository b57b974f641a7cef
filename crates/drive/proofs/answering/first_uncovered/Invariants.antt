use Rattle.std.proofs.Common.{take}
use Rattle.drive.specs.Wanted.{AreWithin}
use Rattle.drive.proofs.answering.first_uncovered.Given as goal

abbrev pub invariant-loop-range : goal.invariant-loop-range
invariant-loop-range l = AreWithin l.covered (take l.range-index l.ranges)
