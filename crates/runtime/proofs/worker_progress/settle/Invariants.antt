use Rattle.std.proofs.Common.{ℕ, vec_len}
use Rattle.runtime.specs.Builds.{HasAsked, IndexIn}
use Rattle.runtime.specs.Clients.{Knowledge}
use Rattle.runtime.specs.Settles.{AreTokensOf, IsProgress}
use Rattle.runtime.proofs.worker_progress.settle.Given as goal

abbrev pub invariant-loop : goal.invariant-loop
invariant-loop g l =
    AreTokensOf l.client.name l.progress.lost.items
    × HasAsked l.initial.client l.client
    × ((index : IndexIn) (start : Knowledge) (top : ℕ) → IsProgress index start l.initial.client top l.initial.progress → IsProgress index start l.client top l.progress)

abbrev pub decreases-loop : goal.decreases-loop
decreases-loop g l = vec_len l.progress.lost
