use Rattle.std.proofs.Common.{◌∙◌, ap, sym, subst}
use Rattle.cluster_core.specs.Tree.{InOrder, Shape}
use Rattle.cluster_core.proofs.InOrder.{order_back}
use Rattle.cluster_core.proofs.tree.Tree.lay.Goals as goal

pub split-after-requires : goal.split-after-requires
split-after-requires c = order_back _ _ (subst InOrder (ap (λ (t : Shape). t.entries) (sym c.replace.ensures.value) ∙ c.split-before.ensures.parts.whole) c.requires.order)
