use Rattle.shell.specs.Further.{IsFurther}
use Rattle.shell.proofs.importing.import_json.Given as goal

-- so many steps were done
abbrev pub invariant-rows : goal.invariant-rows
invariant-rows g l = IsFurther l.fn.import.schedule l.import.schedule
