use Rattle.std.proofs.Common.{sym}
use Rattle.kv_core.proofs.Points.{point_or_not}
use Rattle.kv_core.proofs.range.KeyRange.is_point.Goals as goal

pub returns : goal.returns
returns c = rw (sym c.self.view_is) (point_or_not (record { begin = c.self.inside.begin; end = c.self.inside.end }) c.is_next_of.result c.is_next_of.ensures)
