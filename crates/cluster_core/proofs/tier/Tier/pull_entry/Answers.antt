use Rattle.std.proofs.Common.{◌+◌, ◌<◌, ◌^◌}
use Rattle.cluster_core.proofs.TierReads.{each_server}
use Rattle.cluster_core.proofs.tier.Tier.pull_entry.Goals as goal

pub pull_each-requires-clause-next : goal.pull_each-requires-clause-next
pull_each-requires-clause-next c =
    let fields = c.self.inside in
    each_server (λ server. server.version + 1 < 2 ^ 64) c.args.self.now fields.splits fields.window fields.servers.items c.as_mut_slice.result.now c.self.view_is c.as_mut_slice.ensures.value c.requires
