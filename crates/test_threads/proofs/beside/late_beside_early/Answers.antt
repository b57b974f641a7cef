use denote.Param.{param}
use denote.Param.Send.{sendable}
use Rattle.std.proofs.Crossing.{crosses}
use Rattle.std.proofs.alloc.Global.TheSendSync as heap
use Rattle.std.proofs.sync.atomic.AtomicBool.TheSendSync as flag
use Rattle.runtime.proofs.Sendable.{lent_send}
use Rattle.test_threads.proofs.beside.late_beside_early.Goals as goal

pub join-requires-send-F : goal.join-requires-send-F
join-requires-send-F g c κs within =
    search (lent_send (param 0 g.row.E) g.E.End, heap.the_sync, flag.the_sync, sendable, crosses) depth 20
