use Rattle.std.proofs.Common.{[], subst, sym, take}
use Rattle.std.specs.FinMap.{empty}
use Rattle.cluster_core.specs.Configuration.{first_cluster}
use Rattle.schedule.specs.Contract.{past_of}
use Rattle.schedule.specs.Holds.{IsHeld, no_stores}
use Rattle.schedule.proofs.OwnStore.{holds_nothing}
use Rattle.schedule.proofs.RunSteps.{RunsWith, first_run, run_base, turn}
use Rattle.schedule.proofs.database.Database.steps.Goals as goal

pub step-requires-clause-stands : goal.step-requires-clause-stands
step-requires-clause-stands c =
    (past_of [] (take c.loop-step.step-index c.args.steps.now) c.loop-step.replies.items, (c.loop-step.invariant c.requires.0 c.requires.1).0.stands)

pub step-requires-clause-held : goal.step-requires-clause-held
step-requires-clause-held c stay =
    subst IsHeld
    (sym (run_base (first_cluster c.requires.0) (take c.loop-step.step-index c.args.steps.now) c.loop-step.replies.items c.loop-step.self (c.loop-step.invariant c.requires.0 c.requires.1).0)) (no_stores, holds_nothing)

pub loop-step-init : goal.loop-step-init
loop-step-init c config first =
    subst (λ replies. RunsWith (first_cluster config) [] replies c.args.self.now c.in_ok-kept.kept.plans.items) (sym c.new-replies.ensures.items) (first_run empty config c.args.self.now first, c.in_ok-kept.ensures)

pub loop-step-preserved : goal.loop-step-preserved
loop-step-preserved c config first =
    turn (first_cluster config) c.args.steps.now c.loop-step.step-index c.step-item.result c.loop-step.replies.items c.push.new.self.items c.in_ok-reply.reply c.loop-step.self c.step.new.self c.loop-step.kept.plans.items c.keep.new.self.plans.items
    c.loop-step-test.true c.step-item.is c.in_ok-push.ensures.items (c.loop-step.invariant config first) c.in_ok-reply.ensures c.in_ok-keep.ensures
