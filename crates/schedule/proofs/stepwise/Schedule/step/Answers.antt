use Rattle.std.proofs.Common.{subst, sym, ap, ◌∙◌, ◌∷◌, ◌++◌, []}
use Rattle.cluster_core.specs.Cluster.{forget}
use Rattle.schedule.specs.Contract.{past_of}
use Rattle.schedule.specs.Holds.{IsHeld}
use Rattle.schedule.specs.declared.database.Database.{Database}
use Rattle.schedule.specs.declared.stepwise.Parts.{Parts}
use Rattle.schedule.specs.Stepwise.{HasDoneFrom, IsReached, stepwise_state, whole_database}
use Rattle.schedule.proofs.Forgotten.{stands_so, stepped_whole}
use Rattle.schedule.proofs.RunSteps.{longer_run, step_base}
use Rattle.schedule.proofs.stepwise.Schedule.step.Goals as goal

pub step-requires-clause-stands : goal.step-requires-clause-stands
step-requires-clause-stands c =
    let was = subst (λ (p : Parts). IsReached p.database p.kept.plans.items p.stays_open) (sym c.deref_mut.ensures.value) c.self.invariant in
    let past = past_of [] was.steps was.replies in
    (past, stands_so past c.deref_mut.result.now.database was.done.0.stands)

pub step-requires-clause-held : goal.step-requires-clause-held
step-requires-clause-held c =
    (subst (λ (p : Parts). IsReached p.database p.kept.plans.items p.stays_open) (sym c.deref_mut.ensures.value) c.self.invariant).held

pub invariant_of-longer : goal.invariant_of-longer
invariant_of-longer c =
    let was = subst (λ (p : Parts). IsReached p.database p.kept.plans.items p.stays_open) (sym c.deref_mut.ensures.value) c.self.invariant in
    let step = c.args.step.now in
    let reply = c.in_ok-reply.reply in
    let database = c.deref_mut.result.now.database in
    let plans = c.deref_mut.result.now.kept.plans.items in
    let kept = c.keep.new.self.plans.items in
    let past = past_of [] was.steps was.replies in
    let stands = stands_so past database was.done.0.stands in
    record {
      forgotten = ap (λ (d : Database). d.cluster) c.let_go.ensures ∙ sym (ap (λ (d : Database). forget d.cluster) c.let_go.ensures);
      held = λ yes.
          subst IsHeld
          (sym (ap (λ (d : Database). d.cluster.base) c.let_go.ensures ∙ step_base plans step reply database c.step.new.self c.in_ok-reply.ensures past stands was.done.1))
          (was.held yes);
      first = was.first;
      steps = was.steps ++ step ∷ [];
      replies = was.replies ++ reply ∷ [];
      done =
          subst (λ (d : Database). HasDoneFrom was.first (was.steps ++ step ∷ []) (was.replies ++ reply ∷ []) (stepwise_state d kept)) (sym c.let_go.ensures)
          (longer_run was.first was.steps was.replies step reply (whole_database database) (whole_database c.step.new.self) plans kept was.done
          (stepped_whole plans step reply database c.step.new.self c.in_ok-reply.ensures) c.in_ok-keep.ensures);
    }

pub returns : goal.returns
returns c first steps replies done =
    let step = c.args.step.now in
    let reply = c.in_ok-reply.reply in
    let database = c.deref_mut.result.now.database in
    let plans = c.deref_mut.result.now.kept.plans.items in
    let kept = c.keep.new.self.plans.items in
    let before =
    subst (λ (p : Parts). HasDoneFrom first steps replies (stepwise_state p.database p.kept.plans.items)) (sym c.deref_mut.ensures.value)
    (subst (HasDoneFrom first steps replies) (sym c.self.view_is) done) in
    subst (λ (d : Database). HasDoneFrom first (steps ++ step ∷ []) (replies ++ reply ∷ []) (stepwise_state d kept)) (sym c.let_go.ensures)
    (longer_run first steps replies step reply (whole_database database) (whole_database c.step.new.self) plans kept before
    (stepped_whole plans step reply database c.step.new.self c.in_ok-reply.ensures) c.in_ok-keep.ensures)
