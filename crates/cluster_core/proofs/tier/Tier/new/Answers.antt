use Rattle.std.proofs.Common.{◌∙◌, ap, sym}
use Rattle.cluster_core.specs.Decision.{owners}
use Rattle.cluster_core.proofs.TierStarts.{starts_first, starts_tier}
use Rattle.cluster_core.proofs.tier.Tier.new.Goals as goal

pub invariant_of-result : goal.invariant_of-result
invariant_of-result c =
    starts_tier c.args.config.now c.in_ok-splits.splits c.in_ok-servers.servers.items (sym c.refusal_of.ensures ∙ c.in_default.is) c.in_ok-splits.ensures
    (c.in_ok-servers.ensures.owners ∙ c.in_ok-parts.ensures ∙ ap owners c.as_slice.ensures) c.in_ok-servers.ensures.kept

pub returns-clause-made : goal.returns-clause-made
returns-clause-made c =
    starts_first c.args.config.now c.in_ok-splits.splits c.in_ok-servers.servers.items c.in_ok-splits.ensures (c.in_ok-servers.ensures.owners ∙ c.in_ok-parts.ensures ∙ ap owners c.as_slice.ensures)
    c.in_ok-servers.ensures.states
