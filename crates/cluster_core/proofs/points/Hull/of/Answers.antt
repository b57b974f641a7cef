use Rattle.cluster_core.proofs.PointSegments.{spans_own}
use Rattle.cluster_core.proofs.points.Hull.of.Goals as goal

pub returns : goal.returns
returns c = spans_own _ c.args.key.now c.in_ok-least.ensures c.in_ok-greatest.ensures
