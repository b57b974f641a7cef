use denote.Param.{param}
use denote.Param.Send.{sendable}
use Rattle.std.proofs.Crossing.{crosses}
use Rattle.bench_threads.proofs.Jobs.{job_send}
use Rattle.bench_threads.proofs.kept_commits.counted.Goals as goal

pub map_vec-requires-send-J : goal.map_vec-requires-send-J
map_vec-requires-send-J g c κs within =
    search (job_send (param 0 g.row.E) g.E.End, sendable, crosses) depth 20
