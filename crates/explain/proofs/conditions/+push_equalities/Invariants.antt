use Rattle.std.proofs.Common.{length}
use Rattle.explain.proofs.conditions.+push_equalities.Given as goal

abbrev pub decreases-push_equalities : goal.decreases-push_equalities
decreases-push_equalities l = length l.cells.now
