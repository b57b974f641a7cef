use Rattle.std.proofs.Common.{◌∙◌, ap, length, sym, true}
use Rattle.cluster_core.proofs.Forgetting.{answered_is}
use Rattle.cluster_core.proofs.log.Log.len.Goals as goal

pub returns : goal.returns
returns c = sym (answered_is c.self.inside.count true c.self.inside.passes.items c.self.invariant) ∙ ap length c.self.view_is
