use Rattle.schedule.proofs.ReportSteps.{tells_none, tells_some}
use Rattle.schedule.proofs.database.Database.report_into.Goals as goal

pub returns-in_ok-push_report-in-Some : goal.returns-in_ok-push_report-in-Some
returns-in_ok-push_report-in-Some c opens subs s =
    tells_some opens subs c.args.reports.now.items c.push_report.new.reports.items _ c.in-Some.told c.args.self.now c.report_next.new.self (c.in_ok-told.ensures opens subs s) c.in-Some.is c.in_ok-push_report-in-Some.ensures

pub returns-in-None : goal.returns-in-None
returns-in-None c opens subs s = tells_none opens subs c.args.reports.now.items _ c.args.self.now c.report_next.new.self (c.in_ok-told.ensures opens subs s) c.in-None.is
