use Rattle.std.proofs.lemmas.Result.{IfOk-weaker}
use Rattle.shell.specs.Further.{IsFurther}
use Rattle.shell.proofs.import.Import.submit.Goals as goal

pub returns : goal.returns
returns c =
    IfOk-weaker c.step-2.result (λ after. IsFurther c.in_ok-submitted.submitted.schedule after.schedule)
    (λ after. IsFurther c.args.self.schedule after.schedule) (λ after next start so_far. next start (c.in_ok-submitted.ensures start so_far)) c.step-2.ensures
