use denote.Param.Send.{sendable}
use Rattle.std.proofs.Crossing.{crosses}
use Rattle.record_layer.proofs.Folders.{folder_logs}
use Rattle.example_threads.proofs.trade_in.Goals as goal

pub demonstrate-requires-send-E : goal.demonstrate-requires-send-E
demonstrate-requires-send-E g c κs within = search (folder_logs, sendable, crosses) depth 20
