use Rattle.std.proofs.Common.{arith}
use Rattle.journal.proofs.Parts.{follows_part}
use Rattle.journal.proofs.fuse.FuseDevice.write_at.Goals as goal

pub returns-in_err-write_at-clause-crash : goal.returns-in_err-write_at-clause-crash
returns-in_err-write_at-clause-crash g c =
    follows_part c.args.at c.min.result c.args.bytes.now c.split_at.result.0.now (g.D.Device.may_leave c.args.self.now.device) (g.D.Device.may_leave c.write_at.new.self)
    c.split_at.ensures.front (omega (arith, c.min.ensures)) c.write_at.ensures.crash

pub returns-then-burn-clause-crash : goal.returns-then-burn-clause-crash
returns-then-burn-clause-crash g c =
    follows_part c.args.at c.min.result c.args.bytes.now c.split_at.result.0.now (g.D.Device.may_leave c.args.self.now.device) (g.D.Device.may_leave c.write_at.new.self)
    c.split_at.ensures.front (omega (arith, c.min.ensures)) c.write_at.ensures.crash
