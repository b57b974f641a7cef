use denote.Param.{param}
use denote.Param.Send.{sendable}
use Rattle.std.proofs.Crossing.{crosses}
use Rattle.tuple_codec.proofs.Text.TheSendSync as text
use Rattle.metadata.proofs.cells.Cells.TheSendSync as cells
use Rattle.runtime.proofs.Sendable.{lent_send}
use Rattle.race.proofs.racing.save_and_build.Goals as goal

pub join-requires-send-F : goal.join-requires-send-F
join-requires-send-F g c κs within =
    search (lent_send (param 0 g.row.E) g.E.End, text.the_sync, cells.the_sync, sendable, crosses) depth 20
