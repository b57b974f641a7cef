use Rattle.std.proofs.Common.{take}
use Rattle.shell.specs.Further.{HasDoneNext}
use Rattle.shell.proofs.stepping.do_steps.Given as goal

-- the steps up to the next one were done after those of before
abbrev pub invariant-loop-step : goal.invariant-loop-step
invariant-loop-step g l = HasDoneNext (take l.step-index l.steps) l.fn.schedule l.schedule
