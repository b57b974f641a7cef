-- Private: how the cluster moves until every role has handled all that is submitted.
use Rattle.std.specs.Prelude.{◌≡◌, ◌≤◌, ◌<◌, ℕ, ◌+◌, ◌-◌, Bool, true, false}
use Rattle.std.specs.Prelude.{if◌then◌else◌, List, [], ◌++◌, Option, length}
use Rattle.std.specs.List.{range_with_len, sum_by}
use Rattle.cluster_core.specs.declared.answers.Work.{Work}
use Rattle.cluster_core.specs.declared.answers.Work.TheVariants as works
use Rattle.cluster_core.specs.Cluster.{ClusterState}
use Rattle.cluster_core.specs.Roles.{may_append, may_resolve, submitted}
use Rattle.schedule.specs.declared.database.Database.{Database}
use Rattle.schedule.specs.declared.reply.Report.{Report}
use Rattle.schedule.specs.Past.{Open, Submission}
use Rattle.schedule.specs.Contract.{reports_of}
use Rattle.schedule.specs.Standing.{settled}
use Rattle.schedule.specs.Running.{IsStanding}

-- a role did something
abbrev pub has_worked : Work → Bool
has_worked works.Done = true
has_worked works.NothingToDo = false

-- the cluster with its clocks elsewhere
abbrev pub moved : ClusterState → List ℕ → List ℕ → ℕ → List ℕ → ClusterState
moved c resolved logged reported pulled =
    record c {
      pipeline = record c.pipeline { resolved = resolved; logged = logged; reported = reported };
      pulled = pulled;
    }

-- only clocks moved
pub record IsMoved (old new : ClusterState) : Type 0 where
  pub frame : new ≡ moved old new.pipeline.resolved new.pipeline.logged new.pipeline.reported new.pulled
  pub resolvers : length new.pipeline.resolved ≡ length old.pipeline.resolved
  pub logs : length new.pipeline.logged ≡ length old.pipeline.logged
  pub servers : length new.pulled ≡ length old.pulled
  pub onward : old.pipeline.reported ≤ new.pipeline.reported

-- how far clocks are behind a version, in all
abbrev pub versions_behind : ℕ → List ℕ → ℕ
versions_behind version clocks = sum_by (λ clock. version - clock) clocks

-- what is left to do
abbrev pub left : ClusterState → ℕ
left c =
    let last = submitted c.pipeline in
    versions_behind last c.pipeline.resolved + versions_behind last c.pipeline.logged + (last - c.pipeline.reported)
    + versions_behind last c.pulled

-- the cluster moved, and where something was done, less is left
pub record IsNearer (done : Bool) (old new : ClusterState) : Type 0 where
  pub moved : IsMoved old new
  pub less : left new + (if done then 1 else 0) ≤ left old
  pub idle : done ≡ false → new ≡ old

-- none of the first roles has anything to do
abbrev pub NoneMay : (ClusterState → ℕ → Bool) → ClusterState → ℕ → Type 0
NoneMay may c count = (role : ℕ) → role < count → may c role ≡ false

-- the first roles did a step each, where they might, which reported nothing
pub record HaveWorked (may : ClusterState → ℕ → Bool) (count : ℕ) (done : Bool) (old new : Database) : Type 0 where
  pub nearer : IsNearer done old.cluster new.cluster
  pub reported : new.cluster.pipeline.reported ≡ old.cluster.pipeline.reported
  pub standing :
      (opens : ℕ → Option Open) (submissions : List Submission) → IsStanding opens submissions old →
      IsStanding opens submissions new
  pub none : done ≡ false → NoneMay may old.cluster count

-- a resolver has something to do
abbrev pub resolver_may : ClusterState → ℕ → Bool
resolver_may c r = may_resolve c.pipeline r

-- the same of a log
abbrev pub log_may : ClusterState → ℕ → Bool
log_may c l = may_append c.pipeline l

-- some steps of roles, which told of the versions that were reported
pub record HaveTold (opens : ℕ → Option Open) (submissions : List Submission) (before after : List Report)
    (old new : Database) : Type 0 where
  pub standing : IsStanding opens submissions new
  pub moved : IsMoved old.cluster new.cluster
  pub reports :
      after ≡ before ++ reports_of old.cluster.pipeline submissions
      (range_with_len (old.cluster.pipeline.reported + 1)
      (new.cluster.pipeline.reported - old.cluster.pipeline.reported))

-- every role has handled all that is submitted
abbrev pub IsSettled : ClusterState → Type 0
IsSettled c = c ≡ settled c

-- a round: what it told, how much less is left, and that the roles are done where it did nothing
pub record IsRound (opens : ℕ → Option Open) (submissions : List Submission) (before : List Report) (done : Bool)
    (after : List Report) (old new : Database) : Type 0 where
  pub tells : HaveTold opens submissions before after old new
  pub less : left new.cluster + (if done then 1 else 0) ≤ left old.cluster
  pub settled : done ≡ false → IsSettled new.cluster

-- so it was done, whatever stood before
abbrev pub Rounds : List Report → Bool → List Report → Database → Database → Type 0
Rounds before done after old new =
    (opens : ℕ → Option Open) (submissions : List Submission) → IsStanding opens submissions old →
    IsRound opens submissions before done after old new

-- the rounds so far: what they told, and that the roles are done unless another round may do something
pub record HasSettled (opens : ℕ → Option Open) (submissions : List Submission) (busy : Bool) (after : List Report)
    (old new : Database) : Type 0 where
  pub tells : HaveTold opens submissions [] after old new
  pub settled : busy ≡ false → IsSettled new.cluster
