use Rattle.std.proofs.Common.{arith, refl}
use Rattle.schedule.proofs.RoleSteps.{resolve_steps}
use Rattle.schedule.proofs.database.Database.resolve.Goals as goal

pub returns : goal.returns
returns c =
    resolve_steps c.args.self.now _ c.args.resolver c.in_ok-work.work c.work_reply.result c.work_reply.ensures (omega arith) c.in_ok-work.ensures.step
    (record { transactions = refl; unreported = refl; commits = refl })
