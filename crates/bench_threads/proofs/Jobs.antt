-- What a thread has may go to it.
use denote.RattleType.{RattleType}
use denote.Param.Send.{IsSend, sendable, struct_send, recorded_send}
use denote.Struct.Declared.{shape}
use Rattle.std.proofs.Crossing.{crosses}
use Rattle.runtime.specs.declared.locked_state.End.{Ghosts}
use Rattle.runtime.proofs.Sendable.{client_send}
use Rattle.bench_threads.specs.contracts.clients.Job as Job

pub job_send : (E : RattleType) (g : Ghosts E.Denot) → IsSend E → IsSend (Job.the_row E g)
job_send E g s =
    recorded_send (Job.the_field E g).row _ _ (Job.the_type E g).to_one
    (struct_send (shape (Job.the_type E g)) (client_send E g s, (search (sendable, crosses), tt)))
