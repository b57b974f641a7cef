use Rattle.std.proofs.Common.{◌≡◌, map, take}
use Rattle.logged_schedule.specs.Runs.{lost}
use Rattle.logged_schedule.proofs.followed.lost_each.Given as goal

-- those so far
abbrev pub invariant-loop-report : goal.invariant-loop-report
invariant-loop-report l = l.out.items ≡ map lost (take l.report-index l.reports)
