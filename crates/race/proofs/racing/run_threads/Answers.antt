use denote.Param.{param}
use denote.Param.Send.{sendable}
use Rattle.std.proofs.Crossing.{crosses}
use Rattle.tuple_codec.proofs.Text.TheSendSync as text
use Rattle.metadata.proofs.cells.Cells.TheSendSync as cells
use Rattle.runtime.proofs.Sendable.{lent_send}
use Rattle.race.proofs.racing.run_threads.Goals as goal

pub join-first-requires-send-F : goal.join-first-requires-send-F
join-first-requires-send-F g c κs within =
    search (lent_send (param 0 g.row.E) g.E.End, text.the_sync, cells.the_sync, sendable, crosses) depth 20
