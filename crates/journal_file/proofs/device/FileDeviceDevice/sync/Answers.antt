use Rattle.std.proofs.Common.{[]}
use Rattle.journal_file.proofs.Stays.{crash_sync}
use Rattle.journal_file.proofs.device.FileDeviceDevice.sync.Goals as goal

pub returns-clause-crash : goal.returns-clause-crash
returns-clause-crash c =
    crash_sync 0 [] c.is_ok-is_done.result c.args.self.now.history c.note.new.self c.note.ensures.noted
