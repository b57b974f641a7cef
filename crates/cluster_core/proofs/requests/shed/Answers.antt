use Rattle.std.proofs.Common.{◌∙◌, ap, drop}
use Rattle.cluster_core.proofs.Forgetting.{drop_twice}
use Rattle.cluster_core.proofs.requests.shed.Goals as goal

pub loop-preserved : goal.loop-preserved
loop-preserved g c = c.pop_front.ensures.rest ∙ ap (drop 1) c.loop.invariant ∙ drop_twice 1 c.loop.counter c.args.items.now.items
