use Rattle.std.proofs.Common.{◌+◌, ap, map, refl}
use Rattle.cluster_core.proofs.ServerSteps.{advanced_rest}
use Rattle.cluster_core.proofs.server.Server.advance.Goals as goal

pub returns-clause-rest : goal.returns-clause-rest
returns-clause-rest c =
    advanced_rest c.args.self.now (record c.args.self.now { version = c.args.self.now.version + 1; chains = c.take_written-written.new.self; recent = c.push_front_reserved.new.self })
    c.take_written-written.result.items refl refl (ap (map (λ keys. keys.items)) c.push_front_reserved.ensures.items) c.take_written-written.ensures.keys c.take_written-written.ensures.chains
    c.take_written-written.ensures.written c.requires.staged c.requires.own
