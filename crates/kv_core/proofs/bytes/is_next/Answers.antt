use Rattle.kv_core.proofs.Points.{next_or_not}
use Rattle.kv_core.proofs.bytes.is_next.Goals as goal

pub returns-then-last-eq0 : goal.returns-then-last-eq0
returns-then-last-eq0 c = next_or_not c.args.bytes.now c.args.others.now c.in-Some.front.now c.in-Some.last.now c.is_equal.result c.in-Some.ensures.cases.0 c.if-last-eq0.true c.is_equal.ensures
