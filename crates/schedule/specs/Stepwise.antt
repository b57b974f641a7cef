-- A schedule that is made a step at a time: what stands after the steps so far.
use Rattle.std.specs.Prelude.{◌≡◌, Bool, true, List, [], ◌∷◌, ◌++◌, Option}
use Rattle.cluster_core.specs.declared.answers.Config.{Config}
use Rattle.cluster_core.specs.Cluster.{ClusterState, forget, with_pipeline}
use Rattle.cluster_core.specs.Configuration.{first_cluster}
use Rattle.cluster_core.specs.Roles.{whole}
use Rattle.planner.specs.Asked.{AskedPlan}
use Rattle.schedule.specs.declared.step.Step.{Step}
use Rattle.schedule.specs.declared.reply.Reply.{Reply}
use Rattle.schedule.specs.declared.transcript.Transcript.{Transcript}
use Rattle.schedule.specs.declared.database.Database.{Database}
use Rattle.schedule.specs.Contract.{past_of}
use Rattle.schedule.specs.Holds.{HoldsAll, IsHeld, Stores}
use Rattle.schedule.specs.Running.{AreKept, HasRun}

-- the cluster, as if bytes of all requests were kept
abbrev pub whole_cluster : ClusterState → ClusterState
whole_cluster c = with_pipeline (whole c.pipeline) c

-- the database, as if bytes of all requests were kept
abbrev pub whole_database : Database → Database
whole_database database = record database { cluster = whole_cluster database.cluster }

-- the database, as if bytes of all requests were kept, and the plans that the clients keep
pub record StepwiseState : Type 0 where
  pub database : Database
  pub plans : List (Option AskedPlan)

abbrev pub stepwise_state : Database → List (Option AskedPlan) → StepwiseState
stepwise_state database plans = record { database = whole_database database; plans = plans }

-- these steps were done one after another from where the cluster was this, and these are their replies
abbrev pub HasDoneFrom : ClusterState → List Step → List Reply → StepwiseState → Type 0
HasDoneFrom first steps replies state =
    HasRun first steps replies state.database × AreKept (past_of [] steps replies) state.plans

-- so they were from the start of a configuration on
abbrev pub HasDone : Config → List Step → List Reply → StepwiseState → Type 0
HasDone config steps replies state = HasDoneFrom (first_cluster config) steps replies state

-- Private: steps from some cluster on have led to this, and no more bytes of requests are kept than may be asked for
-- again; where stores may stay open, the base holds some
pub record IsReached (database : Database) (plans : List (Option AskedPlan)) (stays_open : Bool) : Type 0 where
  pub forgotten : database.cluster ≡ forget database.cluster
  pub held : stays_open ≡ true → IsHeld database.cluster.base
  pub first : ClusterState
  pub steps : List Step
  pub replies : List Reply
  pub done : HasDoneFrom first steps replies (stepwise_state database plans)

-- what the steps so far did, with these replies
abbrev pub transcript_so_far : List Reply → StepwiseState → Transcript
transcript_so_far replies state =
    record { replies = replies; commits = state.database.commits; cluster = state.database.cluster }

-- whatever steps were done: what they did is such
abbrev pub IsSoFar : (Config → List Step → Transcript → Type 0) → StepwiseState → Type 0
IsSoFar Such state =
    (config : Config) (steps : List Step) (replies : List Reply) → HasDone config steps replies state →
    Such config steps (transcript_so_far replies state)

-- whatever steps were done from whatever cluster on, and whatever stores its base holds: what they did is such
abbrev pub IsSoFarOver : (ClusterState → Stores → List Step → Transcript → Type 0) → StepwiseState → Type 0
IsSoFarOver Such state =
    (first : ClusterState) (before : Stores) (steps : List Step) (replies : List Reply) →
    HasDoneFrom first steps replies state → HoldsAll first.base before →
    Such first before steps (transcript_so_far replies state)

-- whatever steps were done before: this one was done behind them, with this reply
abbrev pub DoesNext : Step → Reply → StepwiseState → StepwiseState → Type 0
DoesNext step reply before after =
    (first : ClusterState) (steps : List Step) (replies : List Reply) → HasDoneFrom first steps replies before →
    HasDoneFrom first (steps ++ step ∷ []) (replies ++ reply ∷ []) after
