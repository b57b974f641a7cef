use Rattle.std.proofs.Common.{refl}
use Rattle.schedule.proofs.SettleSteps.{one_round}
use Rattle.schedule.proofs.database.Database.round.Goals as goal

pub returns : goal.returns
returns c =
    one_round c.args.reports.now.items c.report_into.new.reports.items c.in_ok-resolved.resolved c.in_ok-appended.appended c.in_ok-reported.reported c.in_ok-pulled.pulled _
    c.args.self.now c.resolve_each.new.self c.append_each.new.self c.report_into.new.self c.pull_each.new.self refl
    c.in_ok-resolved.ensures c.in_ok-appended.ensures c.in_ok-reported.ensures c.in_ok-pulled.ensures c.laws_of.ensures.ordered
