use Rattle.std.proofs.Common.{subst}
use Rattle.std.proofs.lemmas.List.{take_all}
use Rattle.shell.specs.Further.{HasDoneNext}
use Rattle.shell.proofs.Further.{further_steps, gone_on_more, gone_on_none}
use Rattle.shell.proofs.stepping.do_steps.Goals as goal

pub loop-step-init : goal.loop-step-init
loop-step-init g c = gone_on_none c.args.schedule

pub loop-step-preserved : goal.loop-step-preserved
loop-step-preserved g c =
    gone_on_more c.args.steps.now c.loop-step.step-index c.step-item.result c.in_ok-after.reply c.args.schedule c.loop-step.schedule c.in_ok-after.after c.loop-step-test.true c.step-item.is c.loop-step.invariant
    c.in_ok-after.ensures

pub returns-clause-next : goal.returns-clause-next
returns-clause-next g c = subst (λ steps. HasDoneNext steps c.args.schedule c.loop-step.schedule) (take_all c.loop-step.step-index c.args.steps.now c.loop-step-test.false) c.loop-step.invariant

pub returns-clause-further : goal.returns-clause-further
returns-clause-further g c = further_steps _ _ _ c.loop-step.invariant
