use Rattle.std.proofs.Common.{◌≡◌, false}
use Rattle.runtime.specs.Runs.{GoesOnFrom}
use Rattle.runtime.specs.Settles.{IsProgress}
use Rattle.runtime.specs.Works.{HasTaken, Works}
use Rattle.runtime.proofs.index_worker.build_worker_in.Given as goal

abbrev pub invariant-loop-round : goal.invariant-loop-round
invariant-loop-round g l =
    GoesOnFrom l.initial.client l.client
    × (l.worker.index ≡ l.fn.index)
    × HasTaken l.fn.store (Works g.G.Gate.passed) l.round (record { index = l.fn.index; limit = l.limit; gate = l.fn.gate }, l.initial.client) (l.worker, l.client)
    × IsProgress (l.fn.store, l.fn.index) l.initial.client l.client l.client.last l.progress
    × (l.progress.marked ≡ false)
