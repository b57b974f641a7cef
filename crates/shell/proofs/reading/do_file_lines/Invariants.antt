use Rattle.shell.specs.Further.{IsFurther}
use Rattle.shell.proofs.reading.do_file_lines.Given as goal

-- so many steps were done
abbrev pub invariant-files : goal.invariant-files
invariant-files g l = IsFurther l.fn.schedule l.schedule
