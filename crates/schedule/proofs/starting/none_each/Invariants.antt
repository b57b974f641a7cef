use Rattle.std.proofs.Common.{◌≡◌, None, replicate}
use Rattle.schedule.proofs.starting.none_each.Given as goal

-- so many places so far
abbrev pub invariant-loop : goal.invariant-loop
invariant-loop g l = l.places.items ≡ replicate l.counter None
