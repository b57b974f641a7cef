use Rattle.std.proofs.Common.{◌∙◌, ◌+◌, ◌<◌, ◌^◌, rules}
use Rattle.kv_core.specs.Map.{after_all}
use Rattle.cluster_core.specs.Server.{IsServer, next_map, server_state}
use Rattle.cluster_core.specs.Tier.{map_of}
use Rattle.cluster_core.proofs.OwnMaps.{All-others, all_parts, own_part}
use Rattle.cluster_core.proofs.ServerSteps.{still_kept}
use Rattle.cluster_core.proofs.server.+pull_each.Goals as goal

pub returns-in_err-stage-clause-kept : goal.returns-in_err-stage-clause-kept
returns-in_err-stage-clause-kept t c =
    let kept = all_parts (IsServer c.args.window) c.in-Some.server.now c.in-Some.others.now c.args.servers.now c.in-Some.ensures.cases.0 c.requires.kept in
    (still_kept c.in-Some.server.now c.stage.new.self c.args.window kept.0 c.in_err-stage.ensures.depth c.in_err-stage.ensures.rest, kept.1)

pub pull_each-requires : goal.pull_each-requires
pull_each-requires t c =
    let is = c.in-Some.ensures.cases.0 in (
      search rules,
      (
        All-others (λ server. server.version + 1 < 2 ^ 64) c.in-Some.server.now c.in-Some.others.now c.args.servers.now is c.requires.next,
        (all_parts (IsServer c.args.window) c.in-Some.server.now c.in-Some.others.now c.args.servers.now is c.requires.kept).1,
      ),
    )

pub returns-in-Err-clause-kept : goal.returns-in-Err-clause-kept
returns-in-Err-clause-kept t c =
    let kept = all_parts (IsServer c.args.window) c.in-Some.server.now c.in-Some.others.now c.args.servers.now c.in-Some.ensures.cases.0 c.requires.kept in
    (still_kept c.in-Some.server.now c.take_back.new.self c.args.window kept.0 (c.take_back.ensures.depth ∙ c.in_ok-stage.ensures.depth) c.take_back.ensures.rest, c.in-Err.ensures.kept)

pub advance-requires-clause-own : goal.advance-requires-clause-own
advance-requires-clause-own t c =
    let server = c.in-Some.server.now in
    own_part server.part c.stage.new.self.part (after_all c.args.mutations.now (map_of (server_state server) server.version)) (next_map c.stage.new.self) c.in_ok-stage.ensures.owner c.in_ok-stage.ensures.shows
