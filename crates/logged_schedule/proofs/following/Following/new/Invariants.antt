use Rattle.std.proofs.Common.{◌≡◌, None, replicate}
use Rattle.logged_schedule.proofs.following.Following.new.Given as goal

-- so many places so far
abbrev pub invariant-loop : goal.invariant-loop
invariant-loop l = l.places.items ≡ replicate l.counter None
