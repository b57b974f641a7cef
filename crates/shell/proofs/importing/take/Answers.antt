use Rattle.std.proofs.Common.{sym, subst}
use Rattle.shell.specs.Further.{IsFurther}
use Rattle.shell.proofs.importing.take.Goals as goal

pub returns-in-Bad : goal.returns-in-Bad
returns-in-Bad c = subst (λ s. IsFurther c.args.import.schedule s) (sym c.stopped.ensures) (λ start so_far. so_far)
