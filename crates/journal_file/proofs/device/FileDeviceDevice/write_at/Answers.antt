use Rattle.journal_file.specs.Files.{may_leave}
use Rattle.journal_file.proofs.Steps.{crash_refused}
use Rattle.journal_file.proofs.Stays.{crash_unwritten}
use Rattle.journal_file.proofs.device.FileDeviceDevice.write_at.Goals as goal

pub returns-then-self-clause-crash : goal.returns-then-self-clause-crash
returns-then-self-clause-crash c c' left =
    let old = c.args.self.now.history in
    crash_unwritten c.args.at c.args.bytes.now (may_leave old.first old.calls) c' (crash_refused old c.refuse.new.self c.refuse.ensures.noted c' left)
