use Rattle.shell.specs.Further.{IsFurther}
use Rattle.shell.proofs.scripts.do_shown.Given as goal

-- so many steps were done
abbrev pub invariant-steps : goal.invariant-steps
invariant-steps g l = IsFurther l.fn.schedule l.schedule
