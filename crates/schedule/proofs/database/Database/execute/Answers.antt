use Rattle.std.proofs.Common.{sym, subst}
use Rattle.schedule.specs.Running.{IsStepped}
use Rattle.schedule.specs.declared.step.Command.TheVariants.{Execute}
use Rattle.schedule.specs.declared.step.Step.TheVariants.{Perform}
use Rattle.schedule.proofs.ExecuteSteps.{execute_kept, execute_unplanned}
use Rattle.schedule.proofs.database.Database.execute.Goals as goal

pub returns-in_ok-reply-in-Some : goal.returns-in_ok-reply-in-Some
returns-in_ok-reply-in-Some c =
    execute_kept c.args.kept.now.plans.items c.args.client c.in-Some.plan.now c.in_ok-reply-in-Some.reply c.args.self.now c.perform.new.self c.in-Some.ensures.within
    (sym c.in-Some.ensures.plan)
    (subst (λ plan. IsStepped (Perform c.args.client (Execute plan)) c.in_ok-reply-in-Some.reply c.args.self.now c.perform.new.self) c.in_ok-copy-in-Some.ensures c.in_ok-reply-in-Some.ensures)

pub returns-in-None : goal.returns-in-None
returns-in-None c = execute_unplanned c.args.kept.now.plans.items c.args.client c.without_plan.result c.args.self.now (sym c.in-None.ensures.plan) c.without_plan.ensures
