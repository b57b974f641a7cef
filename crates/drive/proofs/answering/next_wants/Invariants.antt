use Rattle.std.specs.List.{AllByRecursion}
use Rattle.drive.specs.Wanted.{IsUncovered}
use Rattle.drive.proofs.answering.next_wants.Given as goal

abbrev pub invariant-loop-want : goal.invariant-loop-want
invariant-loop-want l = AllByRecursion (IsUncovered l.covered) l.wants.items
