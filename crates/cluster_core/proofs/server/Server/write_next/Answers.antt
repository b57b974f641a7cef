use Rattle.std.proofs.Common.{◌∙◌, ap, refl}
use Rattle.std.proofs.lemmas.Result.{on_ok_weaker}
use Rattle.kv_core.specs.Map.{after_all}
use Rattle.cluster_core.specs.Server.{owner_of}
use Rattle.cluster_core.specs.Tier.{part}
use Rattle.cluster_core.proofs.ServerSteps.{rest_below, rest_next, rest_own, written_staged, written_state}
use Rattle.cluster_core.proofs.server.Server.write_next.Goals as goal

pub apply_own-requires-clause-below : goal.apply_own-requires-clause-below
apply_own-requires-clause-below c = rest_below c.args.self.now c.requires.rest

pub apply_own-requires-clause-own : goal.apply_own-requires-clause-own
apply_own-requires-clause-own c = rest_own c.args.self.now c.requires.rest

pub returns-clause-state : goal.returns-clause-state
returns-clause-state c = written_state c.args.self.now (record c.args.self.now { chains = c.apply_own.new.chains; recent = c.reserve.new.self }) refl refl c.reserve.ensures.items c.requires.rest c.apply_own.ensures.writes

pub returns-clause-staged : goal.returns-clause-staged
returns-clause-staged c = written_staged c.args.self.now (record c.args.self.now { chains = c.apply_own.new.chains; recent = c.reserve.new.self }) refl refl c.reserve.ensures.items c.requires.rest c.apply_own.ensures.writes

pub returns-clause-shows : goal.returns-clause-shows
returns-clause-shows c =
    on_ok_weaker c.apply_own.result (λ shows. shows ∙ ap (λ m. part (owner_of c.args.self.now) (after_all c.args.mutations.now m)) (rest_next c.args.self.now c.requires.rest)) c.apply_own.ensures.ok
