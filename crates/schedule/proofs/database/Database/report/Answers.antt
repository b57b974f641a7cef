use Rattle.schedule.proofs.ReportSteps.{report_steps}
use Rattle.schedule.proofs.database.Database.report.Goals as goal

pub returns : goal.returns
returns c = report_steps c.args.self.now c.report_into.new.self c.new-reports.result.items c.in_ok-report_into.field-0 c.report_into.new.reports.items c.reports_reply.result c.new-reports.ensures.items c.in_ok-report_into.ensures c.reports_reply.ensures
