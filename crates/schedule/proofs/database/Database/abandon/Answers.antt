use Rattle.std.proofs.Common.{ap, arith, refl, slice_set}
use Rattle.schedule.proofs.ClientSteps.{abandon_steps}
use Rattle.schedule.proofs.database.Database.abandon.Goals as goal
use Rattle.schedule.proofs.database.Database.abandon.Goals.{in-Some, in-None}

pub returns : goal.returns
returns c =
    abandon_steps c.args.self.now _ c.args.client c.match-take.result c.index_mut.result.now (omega arith) c.index_mut.ensures.value
    (λ transaction is. elim c.match-take.branch [ in-Some w ↦ w.result-is | in-None w ↦ absurd (cc (c.take.ensures.value, w.in-None.is)) ])
    (λ is. elim c.match-take.branch [ in-Some w ↦ absurd (cc (c.take.ensures.value, w.in-Some.is)) | in-None w ↦ w.result-is ])
    (record { cluster = refl; transactions = ap (λ o. slice_set c.args.self.now.transactions.items c.args.client o) c.take.ensures.after; unreported = refl; commits = refl })
