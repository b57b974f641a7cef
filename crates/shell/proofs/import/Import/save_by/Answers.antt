use Rattle.std.proofs.lemmas.Result.{IfOk-weaker}
use Rattle.shell.specs.Further.{IsFurther}
use Rattle.shell.proofs.import.Import.save_by.Goals as goal

pub returns-else-fits : goal.returns-else-fits
returns-else-fits c =
    IfOk-weaker c.save_next-else-fits.result (λ after. IsFurther c.in_ok-import.import.schedule after.schedule)
    (λ after. IsFurther c.args.self.schedule after.schedule) (λ after next start so_far. next start (c.in_ok-import.ensures start so_far)) c.save_next-else-fits.ensures
