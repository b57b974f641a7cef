use Rattle.shell.specs.Further.{IsFurther}
use Rattle.shell.proofs.reading.do_lines.Given as goal

-- so many steps were done
abbrev pub invariant-lines : goal.invariant-lines
invariant-lines g l = IsFurther l.fn.schedule l.schedule
