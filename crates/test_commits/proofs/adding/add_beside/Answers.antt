use denote.Param.{param}
use denote.Param.Send.{sendable}
use Rattle.std.proofs.Crossing.{crosses}
use Rattle.std.proofs.alloc.Global.TheSendSync as heap
use Rattle.runtime.proofs.Sendable.{lent_send}
use Rattle.test_commits.proofs.adding.add_beside.Goals as goal

pub join-one-requires-send-F : goal.join-one-requires-send-F
join-one-requires-send-F g c κs within =
    search (lent_send (param 0 g.row.E) g.E.End, heap.the_sync, sendable, crosses) depth 20
