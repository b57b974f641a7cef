use Rattle.schedule.specs.Past.{open_of, submitted_in}
use Rattle.schedule.proofs.SettleSteps.{settle_first, settle_less, settle_more, settle_steps}
use Rattle.schedule.proofs.database.Database.settle.Goals as goal

pub loop-busy-init : goal.loop-busy-init
loop-busy-init c opens subs s = settle_first opens subs c.new-reports.result.items c.args.self.now c.new-reports.ensures.items s

pub loop-busy-smaller : goal.loop-busy-smaller
loop-busy-smaller c =
    let past = c.requires.0 in
    settle_less (λ client. open_of client past) (submitted_in past) c.loop-busy.busy c.in_ok-busy.busy c.loop-busy.reports.items c.round.new.reports.items c.loop-busy.self c.round.new.self c.loop-busy-test.true
    (c.loop-busy.invariant (λ client. open_of client past) (submitted_in past) c.requires.1).tells.standing c.in_ok-busy.ensures

pub loop-busy-preserved : goal.loop-busy-preserved
loop-busy-preserved c opens subs s =
    settle_more opens subs c.loop-busy.busy c.in_ok-busy.busy c.loop-busy.reports.items c.round.new.reports.items c.args.self.now c.loop-busy.self c.round.new.self (c.loop-busy.invariant opens subs s) c.in_ok-busy.ensures

pub returns : goal.returns
returns c =
    settle_steps c.args.self.now c.loop-busy.self c.loop-busy.busy c.loop-busy.reports.items c.reports_reply.result c.loop-busy-test.false c.loop-busy.invariant c.reports_reply.ensures
