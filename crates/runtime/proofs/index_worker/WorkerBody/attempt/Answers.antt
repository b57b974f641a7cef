use Rattle.std.specs.Prelude.{Ok, Err}
use Rattle.runtime.proofs.Works.{performs_continues}
use Rattle.runtime.proofs.index_worker.WorkerBody.attempt.Goals as goal

pub returns-in_err-round-clause-continues : goal.returns-in_err-round-clause-continues
returns-in_err-round-clause-continues g c =
    performs_continues c.args.self.now.index c.args.self.now.limit c.args.tx.now.client.now c.perform_round.new.tx.client.now (Err c.in_err-round.field-0.0) c.in_err-round.ensures.performs

pub returns-clause-continues : goal.returns-clause-continues
returns-clause-continues g c =
    performs_continues c.args.self.now.index c.args.self.now.limit c.args.tx.now.client.now c.perform_round.new.tx.client.now (Ok c.in_ok-round.round) c.in_ok-round.ensures.performs
