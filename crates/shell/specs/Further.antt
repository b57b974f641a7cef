-- A schedule after more steps.
use Rattle.std.specs.Prelude.{ℕ, List, ◌++◌}
use Rattle.cluster_core.specs.Cluster.{ClusterState}
use Rattle.cluster_core.specs.declared.answers.Config.{Config}
use Rattle.schedule.specs.declared.step.Step.{Step}
use Rattle.schedule.specs.declared.reply.Reply.{Reply}
use Rattle.schedule.specs.Stepwise.{HasDoneFrom, StepwiseState}
use Rattle.logged_schedule.specs.Opening.{HasDoneOverLog}
use Rattle.logged_schedule.specs.Continuing.{from_version}

-- whatever steps were done before, these were done after them
abbrev pub HasDoneNext : List Step → StepwiseState → StepwiseState → Type 0
HasDoneNext steps before after =
    (first : ClusterState) (done : List Step) (replies : List Reply) → HasDoneFrom first done replies before →
    (more : List Reply) × HasDoneFrom first (done ++ steps) (replies ++ more) after

-- some steps were done
abbrev pub IsAfter : StepwiseState → StepwiseState → Type 0
IsAfter before after = (steps : List Step) × HasDoneNext steps before after

-- what comes after one comes after all that it came after
abbrev pub IsFurther : StepwiseState → StepwiseState → Type 0
IsFurther before after = (start : StepwiseState) → IsAfter start before → IsAfter start after

-- some steps were done, one after another, from where the cluster was this
abbrev pub IsOfStepsFrom : ClusterState → StepwiseState → Type 0
IsOfStepsFrom first state = (steps : List Step) × (replies : List Reply) × HasDoneFrom first steps replies state

-- so they were in a database of a configuration over what a lawful log comes to, whose stores it holds, from this
-- version on
abbrev pub IsOfStepsOver : Config → ℕ → StepwiseState → Type 0
IsOfStepsOver config start state =
    (steps : List Step) × (replies : List Reply) × HasDoneOverLog (from_version start config) steps replies state
