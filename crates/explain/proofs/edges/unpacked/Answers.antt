use Rattle.std.proofs.Common.{sym}
use Rattle.planner.proofs.Unpacked.{unpack_spelled}
use Rattle.explain.proofs.Packs.{unpack_refused}
use Rattle.explain.proofs.edges.unpacked.Goals as goal

pub returns-in-Ok : goal.returns-in-Ok
returns-in-Ok c = rw (unpack_spelled c.in-Ok.tuple c.args.bytes.now c.in-Ok.ensures.spelled) c.from_tuple.ensures

pub returns-in-Err-Refused : goal.returns-in-Err-Refused
returns-in-Err-Refused c = sym (unpack_refused c.args.bytes.now c.in-Err-Refused.field-0-0.at c.in-Err-Refused.field-0-0.kind (rw c.in-Err-Refused.field-0-is at c.in-Err-Refused.ensures.refused))
