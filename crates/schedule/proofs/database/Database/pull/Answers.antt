use Rattle.std.proofs.Common.{arith, refl}
use Rattle.schedule.proofs.RoleSteps.{pull_steps}
use Rattle.schedule.proofs.database.Database.pull.Goals as goal

pub returns : goal.returns
returns c =
    pull_steps c.args.self.now _ c.args.server c.in_ok-work.work c.work_reply.result c.work_reply.ensures (omega arith) c.laws_of.ensures.ordered c.in_ok-work.ensures.step
    (record { transactions = refl; unreported = refl; commits = refl })
