use Rattle.std.proofs.Common.{◌≡◌, take}
use Rattle.planner.proofs.copying.copy_scans.Given as goal

abbrev pub invariant-loop-scan : goal.invariant-loop-scan
invariant-loop-scan l = l.copy.items ≡ take l.scan-index l.scans
