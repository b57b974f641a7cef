use Rattle.kv_core.specs.Map.{after_all}
use Rattle.cluster_core.specs.Server.{next_map, server_state}
use Rattle.cluster_core.specs.Tier.{map_of}
use Rattle.cluster_core.proofs.OwnMaps.{own_part}
use Rattle.cluster_core.proofs.ServerSteps.{still_kept}
use Rattle.cluster_core.proofs.server.Server.pull.Goals as goal

pub returns-in_err-stage-clause-kept : goal.returns-in_err-stage-clause-kept
returns-in_err-stage-clause-kept c = still_kept c.args.self.now c.stage.new.self c.args.window c.requires.kept c.in_err-stage.ensures.depth c.in_err-stage.ensures.rest

pub advance-requires-clause-own : goal.advance-requires-clause-own
advance-requires-clause-own c =
    let server = c.args.self.now in
    own_part server.part c.stage.new.self.part (after_all c.args.mutations.now (map_of (server_state server) server.version)) (next_map c.stage.new.self) c.in_ok-stage.ensures.owner c.in_ok-stage.ensures.shows
