use Rattle.std.proofs.Common.{◌≤◌, length}
use Rattle.json_places.proofs.line.trimmed.Given as goal

abbrev pub invariant-trim : goal.invariant-trim
invariant-trim l = l.end ≤ length l.bytes

abbrev pub decreases-trim : goal.decreases-trim
decreases-trim l = l.end
