use Rattle.std.proofs.Common.{refl}
use Rattle.schedule.proofs.ReportSteps.{report_idle, report_none, report_told}
use Rattle.schedule.proofs.database.Database.report_next.Goals as goal

pub returns-in-NothingToDo : goal.returns-in-NothingToDo
returns-in-NothingToDo c opens subs s =
    report_idle opens subs c.args.self.now _ c.report-reported.result s c.read_version-version.ensures.clocks c.report-reported.ensures.told c.report-reported.ensures.step c.in-NothingToDo.is
    (record { transactions = refl; unreported = refl; commits = refl })

pub returns-in_ok-list_commit-in-Some : goal.returns-in_ok-list_commit-in-Some
returns-in_ok-list_commit-in-Some c opens subs s =
    report_told opens subs c.args.self.now _ c.report-reported.result c.read_version-version.result c.in-Some.next s c.read_version-version.ensures.clocks c.report-reported.ensures.told c.report-reported.ensures.step
    c.in_default.not-NothingToDo c.read_version-version.ensures.value refl c.in-Some.ensures.items c.in_ok-list_commit-in-Some.ensures

pub returns-in-None : goal.returns-in-None
returns-in-None c opens subs s =
    report_none opens subs c.args.self.now _ c.report-reported.result c.report-reported.new.self c.pop_front.new.self.items s c.read_version-version.ensures.clocks c.report-reported.ensures.told c.report-reported.ensures.step
    c.in_default.not-NothingToDo c.in-None.ensures.items c.in-None.ensures.rest
