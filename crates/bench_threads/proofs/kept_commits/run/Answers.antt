use denote.Param.Send.{sendable}
use Rattle.std.proofs.Crossing.{crosses}
use Rattle.journal.proofs.journal.Journal.TheSendSync as journal
use Rattle.commit_log.proofs.device_log.DeviceLog.TheSendSync as log
use Rattle.journal_file.proofs.Sendable.{device_send}
use Rattle.bench_threads.proofs.kept_commits.run.Goals as goal

pub counted-requires-send-E : goal.counted-requires-send-E
counted-requires-send-E g c κs within =
    search (log.the_send, journal.the_send, device_send, sendable, crosses) depth 20
