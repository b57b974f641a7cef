use Rattle.std.proofs.Common.{◌≡◌, []}
use Rattle.json_places.proofs.mending.read.Given as goal

abbrev pub invariant-loop : goal.invariant-loop
invariant-loop l = l.flaws.items ≡ [] → l.counter ≡ l.initial.counter
