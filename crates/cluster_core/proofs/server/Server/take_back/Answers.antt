use Rattle.std.proofs.Common.{refl}
use Rattle.cluster_core.proofs.ServerSteps.{taken_rest, taken_state}
use Rattle.cluster_core.proofs.server.Server.take_back.Goals as goal

pub take_back-requires : goal.take_back-requires
take_back-requires c = record { below = λ key. (c.requires.staged.chains key).falls; same = c.requires.staged.same }

pub returns-clause-state : goal.returns-clause-state
returns-clause-state c = taken_state c.args.self.now (record c.args.self.now { chains = c.take_back.new.self }) refl refl refl c.requires.staged c.take_back.ensures.chains c.take_back.ensures.written

pub returns-clause-rest : goal.returns-clause-rest
returns-clause-rest c = taken_rest c.args.self.now (record c.args.self.now { chains = c.take_back.new.self }) refl refl refl c.requires.staged c.take_back.ensures.chains c.take_back.ensures.written
