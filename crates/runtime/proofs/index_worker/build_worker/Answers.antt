use Rattle.std.proofs.Common.{subst}
use Rattle.runtime.specs.declared.index_worker.Worker.{Worker}
use Rattle.runtime.specs.Works.{IsWork, Works}
use Rattle.runtime.proofs.index_worker.build_worker.Goals as goal

pub returns-clause-work : goal.returns-clause-work
returns-clause-work g c =
    subst (λ store. (after : Worker g.row.G.Denot) × IsWork store (Works {G = g.row.G.Denot} g.G.Gate.passed) c.args.index c.args.rounds
    (record { index = c.args.index; limit = c.args.limit; gate = c.args.gate }, c.args.client.now) c.build_worker_in.result (after, c.build_worker_in.new.client))
    c.first-store.ensures c.build_worker_in.ensures.work
