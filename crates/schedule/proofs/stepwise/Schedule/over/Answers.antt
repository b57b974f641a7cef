use Rattle.std.proofs.Common.{[], subst, sym}
use Rattle.std.specs.FinMap.{from_entries}
use Rattle.cluster_core.specs.Configuration.{first_cluster_over}
use Rattle.cluster_core.specs.Cluster.{ClusterState}
use Rattle.schedule.specs.Holds.{IsHeld}
use Rattle.schedule.specs.Stepwise.{HasDoneFrom, IsReached, stepwise_state, whole_database}
use Rattle.schedule.specs.declared.stepwise.Parts.{Parts}
use Rattle.schedule.proofs.Forgotten.{first_forgets, first_whole}
use Rattle.schedule.proofs.RunSteps.{first_run}
use Rattle.schedule.proofs.stepwise.Schedule.over.Goals as goal

pub invariant_of-result : goal.invariant_of-result
invariant_of-result c =
    let base = from_entries c.args.pairs.items in
    let config = c.args.config.now in
    let database = c.in_ok-database.database in
    let first = c.in_ok-database.ensures.made in
    subst (λ (p : Parts). IsReached p.database p.kept.plans.items p.stays_open) (sym c.in-Ok-new.ensures.ok) (record {
      forgotten = first_forgets base config database first;
      held = λ yes. subst (λ (c : ClusterState). IsHeld c.base) (sym first.cluster) (c.requires.stores yes);
      first = first_cluster_over base config;
      steps = [];
      replies = [];
      done = (first_run base config (whole_database database) (first_whole base config database first), c.in-Ok.ensures);
    })

pub returns-in-Ok-new-clause-begun : goal.returns-in-Ok-new-clause-begun
returns-in-Ok-new-clause-begun c =
    let base = from_entries c.args.pairs.items in
    let config = c.args.config.now in
    let database = c.in_ok-database.database in
    let first = c.in_ok-database.ensures.made in
    subst (λ (p : Parts). HasDoneFrom (first_cluster_over base config) [] [] (stepwise_state p.database p.kept.plans.items)) (sym c.in-Ok-new.ensures.ok)
    (first_run base config (whole_database database) (first_whole base config database first), c.in-Ok.ensures)
