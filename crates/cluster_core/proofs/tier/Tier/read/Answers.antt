use Rattle.std.proofs.Common.{◌∙◌, ap, take}
use Rattle.std.specs.List.{flat_map}
use Rattle.cluster_core.specs.Server.{pairs_at, turned}
use Rattle.cluster_core.proofs.TierReads.{all_falling, tier_read}
use Rattle.cluster_core.proofs.tier.Tier.read.Goals as goal

pub read_each-requires : goal.read_each-requires
read_each-requires c = all_falling c.self.inside.window c.self.inside.servers.items c.as_slice-servers.result.now c.as_slice-servers.ensures.value c.self.invariant.kept

pub returns-clause-pairs : goal.returns-clause-pairs
returns-clause-pairs c =
    let fields = c.self.inside in
    c.in_ok-pairs.ensures
    ∙ ap (λ servers. take c.args.limit (flat_map (pairs_at c.args.range.now c.args.version c.args.reverse) (turned c.args.reverse servers))) c.as_slice-servers.ensures.value
    ∙ tier_read c.args.self.now fields.splits fields.window fields.servers.items c.args.range.now c.args.version c.args.limit c.args.reverse c.self.view_is c.self.invariant
