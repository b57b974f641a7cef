use Rattle.std.proofs.Common.{◌+◌, ◌<◌, ◌^◌}
use Rattle.cluster_core.proofs.TierReads.{each_server, each_state}
use Rattle.cluster_core.proofs.tier.Tier.has_next.Goals as goal

pub returns : goal.returns
returns c =
    let f = c.self.inside in (
      λ yes. each_state (λ server. server.version + 1 < 2 ^ 64) c.args.self.now f.splits f.window f.servers.items c.as_slice.result.now c.self.view_is c.as_slice.ensures.value (c.have_next.ensures.0 yes),
      λ all. c.have_next.ensures.1
          (each_server (λ server. server.version + 1 < 2 ^ 64) c.args.self.now f.splits f.window f.servers.items c.as_slice.result.now c.self.view_is c.as_slice.ensures.value all),
    )
