use Rattle.std.proofs.Common.{take}
use Rattle.cluster_core.specs.declared.answers.Config.{Config}
use Rattle.cluster_core.specs.Configuration.{first_cluster}
use Rattle.schedule.specs.Running.{IsFirst}
use Rattle.schedule.proofs.RunSteps.{RunsWith}
use Rattle.schedule.proofs.database.Database.steps.Given as goal

-- the steps so far were done, and the plans are kept
abbrev pub invariant-loop-step : goal.invariant-loop-step
invariant-loop-step l = (config : Config) → IsFirst (first_cluster config) l.fn.self → RunsWith (first_cluster config) (take l.step-index l.steps) l.replies.items l.self l.kept.plans.items
