use Rattle.std.proofs.Common.{◌+◌, ℕ, List, Option, cond}
use Rattle.schedule.specs.Past.{Open, Submission}
use Rattle.schedule.specs.Running.{IsStanding}
use Rattle.schedule.specs.Settling.{HasSettled, left}
use Rattle.schedule.proofs.database.Database.settle.Given as goal

-- what is left to do, and whether another round is to come
abbrev pub decreases-loop-busy : goal.decreases-loop-busy
decreases-loop-busy l = left l.self.cluster + cond l.busy 1 0

-- the rounds so far
abbrev pub invariant-loop-busy : goal.invariant-loop-busy
invariant-loop-busy l = (opens : ℕ → Option Open) (submissions : List Submission) → IsStanding opens submissions l.fn.self → HasSettled opens submissions l.busy l.reports.items l.fn.self l.self
