use Rattle.std.proofs.Common.{◌∙◌, ap, sym}
use Rattle.std.specs.FinMap.{empty, from_entries}
use Rattle.kv_core.specs.Map.{after_all}
use Rattle.cluster_core.specs.Decision.{owners}
use Rattle.cluster_core.proofs.OverBase.{starts_over}
use Rattle.cluster_core.proofs.TierStarts.{starts_tier}
use Rattle.cluster_core.proofs.tier.Tier.over.Goals as goal

pub invariant_of-result : goal.invariant_of-result
invariant_of-result c =
    starts_tier c.args.config.now c.in_ok-splits.splits c.in_ok-servers.servers.items (sym c.refusal_of.ensures ∙ c.in_default.is) c.in_ok-splits.ensures
    (c.in_ok-servers.ensures.owners ∙ c.in_ok-parts.ensures ∙ ap owners c.as_slice.ensures) c.in_ok-servers.ensures.kept

pub returns-clause-made : goal.returns-clause-made
returns-clause-made c =
    starts_over (from_entries c.args.pairs.items) (after_all c.as_slice-2.result.now empty) c.args.config.now c.in_ok-splits.splits c.in_ok-servers.servers.items
    (ap (λ ms. after_all ms empty) c.as_slice-2.ensures.value ∙ c.in_ok-mutations.ensures) c.in_ok-splits.ensures (c.in_ok-servers.ensures.owners ∙ c.in_ok-parts.ensures ∙ ap owners c.as_slice.ensures)
    c.in_ok-servers.ensures.states
