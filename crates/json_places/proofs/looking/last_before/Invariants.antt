use Rattle.std.proofs.Common.{◌≤◌, length}
use Rattle.json_places.proofs.looking.last_before.Given as goal

abbrev pub invariant-back : goal.invariant-back
invariant-back l = l.place ≤ length l.text

abbrev pub decreases-back : goal.decreases-back
decreases-back l = l.place
