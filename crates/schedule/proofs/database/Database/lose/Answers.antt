use Rattle.std.proofs.Common.{◌∙◌, ◌++◌, ◌∷◌, [], ap}
use Rattle.schedule.specs.declared.reply.Report.TheVariants.{Unknown}
use Rattle.schedule.proofs.ReportSteps.{lost_none, lost_some}
use Rattle.schedule.proofs.database.Database.lose.Goals as goal

pub returns-in_ok-push-in-Some : goal.returns-in_ok-push-in-Some
returns-in_ok-push-in-Some c = lost_some c.args.self.now c.report_next.new.self _ c.in-Some.told c.new.result c.in_ok-told.ensures c.in-Some.is
    (c.new.ensures ∙ c.in_ok-push-in-Some.ensures.items ∙ ap (λ ones. ones ++ Unknown c.in-Some.told.client ∷ []) c.new-reports.ensures.items)

pub returns-in-None : goal.returns-in-None
returns-in-None c = lost_none c.args.self.now c.report_next.new.self _ c.in_ok-told.ensures c.in-None.is
