use Rattle.shell.specs.Further.{IsFurther}
use Rattle.shell.proofs.reading.do_all.Given as goal

-- so many steps were done
abbrev pub invariant-all : goal.invariant-all
invariant-all g l = IsFurther l.fn.schedule l.schedule
