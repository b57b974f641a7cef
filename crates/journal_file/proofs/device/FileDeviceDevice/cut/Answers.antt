use Rattle.journal_file.specs.Files.{may_leave}
use Rattle.journal_file.proofs.Steps.{crash_refused}
use Rattle.journal_file.proofs.Stays.{crash_uncut}
use Rattle.journal_file.proofs.device.FileDeviceDevice.cut.Goals as goal

pub returns-then-self-clause-crash : goal.returns-then-self-clause-crash
returns-then-self-clause-crash c c' left =
    let old = c.args.self.now.history in
    crash_uncut c.args.len (may_leave old.first old.calls) c' (crash_refused old c.refuse.new.self c.refuse.ensures.noted c' left)
