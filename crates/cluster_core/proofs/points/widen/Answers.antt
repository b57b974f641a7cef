use Rattle.cluster_core.proofs.PointSegments.{none_spanned, widened}
use Rattle.cluster_core.proofs.points.widen.Goals as goal

pub returns-then-is_empty-clause-keys : goal.returns-then-is_empty-clause-keys
returns-then-is_empty-clause-keys c = λ was. none_spanned _ c.args.places.now.entries (c.is_empty.ensures.0 c.if-is_empty.true)

pub returns-clause-keys : goal.returns-clause-keys
returns-clause-keys c = λ was. widened _ _ c.args.places.now.entries c.widen.ensures.wider was
