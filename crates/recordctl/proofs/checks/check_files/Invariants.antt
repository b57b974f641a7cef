use Rattle.std.proofs.Common.{◌≡◌, true}
use Rattle.recordctl.proofs.checks.check_files.Given as goal

-- nothing is printed while nothing is wrong
abbrev pub invariant-loop-path : goal.invariant-loop-path
invariant-loop-path g l = l.is_good ≡ true → (g.W.Write.contents l.output ≡ g.W.Write.contents l.fn.output) × (g.E.Write.contents l.errors ≡ g.E.Write.contents l.fn.errors)
