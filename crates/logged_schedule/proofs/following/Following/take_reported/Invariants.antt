use Rattle.std.proofs.Common.{◌≡◌, ◌++◌, drop}
use Rattle.logged_schedule.specs.Entries.{told_first}
use Rattle.logged_schedule.proofs.following.Following.take_reported.Given as goal

-- those told so far, and then those of the reports that are left
abbrev pub invariant-loop-report : goal.invariant-loop-report
invariant-loop-report l = record {
  told : l.told.items ++ told_first (drop l.report-index l.reports) l.self.waiting.items ≡ told_first l.reports l.fn.self.waiting.items;
  others : l.self.waiting.items ≡ drop l.report-index l.fn.self.waiting.items;
  places : l.self.places.items ≡ l.fn.self.places.items;
}
