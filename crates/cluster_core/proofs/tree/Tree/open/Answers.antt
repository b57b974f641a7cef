use Rattle.std.proofs.Common.{◌<◌, subst}
use Rattle.cluster_core.specs.Tree.{Shape}
use Rattle.cluster_core.proofs.tree.Tree.open.Goals as goal

pub returns-clause-height : goal.returns-clause-height
returns-clause-height c = subst (λ (tree : Shape). tree.height < 256) c.self.view_is c.self.invariant.fits
