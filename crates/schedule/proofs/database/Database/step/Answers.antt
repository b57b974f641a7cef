use Rattle.schedule.specs.Running.{IsSteppedWith}
use Rattle.std.proofs.Common.{IfOk, subst, sym}
use Rattle.schedule.proofs.ExecuteSteps.{any_plans, any_plans_at}
use Rattle.schedule.proofs.database.Database.step.Goals as goal

pub returns-in-Begin : goal.returns-in-Begin
returns-in-Begin c = any_plans_at c.args.kept.now.plans.items _ c.args.step.now c.begin.result c.args.self.now c.begin.new.self c.in-Begin.is c.begin.ensures

pub returns-in-Abandon : goal.returns-in-Abandon
returns-in-Abandon c = any_plans_at c.args.kept.now.plans.items _ c.args.step.now c.abandon.result c.args.self.now c.abandon.new.self c.in-Abandon.is c.abandon.ensures

pub returns-in-Resolve : goal.returns-in-Resolve
returns-in-Resolve c = any_plans c.args.kept.now.plans.items _ c.args.step.now c.resolve.result c.args.self.now c.resolve.new.self c.in-Resolve.is c.resolve.ensures

pub returns-in-Log : goal.returns-in-Log
returns-in-Log c = any_plans c.args.kept.now.plans.items _ c.args.step.now c.append.result c.args.self.now c.append.new.self c.in-Log.is c.append.ensures

pub returns-in-Pull : goal.returns-in-Pull
returns-in-Pull c = any_plans c.args.kept.now.plans.items _ c.args.step.now c.pull.result c.args.self.now c.pull.new.self c.in-Pull.is c.pull.ensures

pub returns-in-Report : goal.returns-in-Report
returns-in-Report c = any_plans c.args.kept.now.plans.items _ c.args.step.now c.report.result c.args.self.now c.report.new.self c.in-Report.is c.report.ensures

pub returns-in-Lost : goal.returns-in-Lost
returns-in-Lost c = any_plans c.args.kept.now.plans.items _ c.args.step.now c.lose.result c.args.self.now c.lose.new.self c.in-Lost.is c.lose.ensures

pub returns-in-Settle : goal.returns-in-Settle
returns-in-Settle c = any_plans c.args.kept.now.plans.items _ c.args.step.now c.settle.result c.args.self.now c.settle.new.self c.in-Settle.is c.settle.ensures

pub returns-in-Perform : goal.returns-in-Perform
returns-in-Perform c = any_plans c.args.kept.now.plans.items _ c.args.step.now c.perform.result c.args.self.now c.perform.new.self c.in-Perform.is c.perform.ensures

pub returns-in-Commit : goal.returns-in-Commit
returns-in-Commit c = any_plans c.args.kept.now.plans.items _ c.args.step.now c.commit.result c.args.self.now c.commit.new.self c.in-Commit.is c.commit.ensures

pub returns-in-Execute : goal.returns-in-Execute
returns-in-Execute c = subst (λ step. IfOk c.execute.result (λ reply. IsSteppedWith c.args.kept.now.plans.items step reply c.args.self.now c.execute.new.self)) (sym c.in-Execute.is) c.execute.ensures
