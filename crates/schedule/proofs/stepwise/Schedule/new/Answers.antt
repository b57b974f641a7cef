use Rattle.std.proofs.Common.{[], ap, subst, sym}
use Rattle.std.specs.FinMap.{empty}
use Rattle.cluster_core.specs.Cluster.{ClusterState}
use Rattle.cluster_core.specs.Configuration.{first_cluster}
use Rattle.schedule.specs.Holds.{IsHeld, no_stores}
use Rattle.schedule.specs.Stepwise.{HasDone, IsReached, stepwise_state, whole_database}
use Rattle.schedule.specs.declared.stepwise.Parts.{Parts}
use Rattle.schedule.proofs.Forgotten.{first_forgets, first_whole}
use Rattle.schedule.proofs.OwnStore.{holds_nothing}
use Rattle.schedule.proofs.RunSteps.{first_run}
use Rattle.schedule.proofs.stepwise.Schedule.new.Goals as goal

pub invariant_of-result : goal.invariant_of-result
invariant_of-result c =
    let config = c.args.config.now in
    let database = c.in_ok-database.database in
    let first = c.in_ok-database.ensures.made in
    subst (λ (p : Parts). IsReached p.database p.kept.plans.items p.stays_open) (sym c.in-Ok-new.ensures.ok) (record {
      forgotten = first_forgets empty config database first;
      held = λ yes. subst (λ (c : ClusterState). IsHeld c.base) (sym first.cluster) (no_stores, holds_nothing);
      first = first_cluster config;
      steps = [];
      replies = [];
      done = (first_run empty config (whole_database database) (first_whole empty config database first), c.in-Ok.ensures);
    })

pub returns-in-Ok-new-clause-begun : goal.returns-in-Ok-new-clause-begun
returns-in-Ok-new-clause-begun c =
    let config = c.args.config.now in
    let database = c.in_ok-database.database in
    let first = c.in_ok-database.ensures.made in
    subst (λ (p : Parts). HasDone config [] [] (stepwise_state p.database p.kept.plans.items)) (sym c.in-Ok-new.ensures.ok)
    (first_run empty config (whole_database database) (first_whole empty config database first), c.in-Ok.ensures)
