use Rattle.std.proofs.Common.{◌∙◌}
use Rattle.runtime.proofs.RunAttempts.{continues_trans}
use Rattle.test_threads.proofs.refusing.SaveAllBody.attempt.Goals as goal

pub returns-in_err-save-clause-continues : goal.returns-in_err-save-clause-continues
returns-in_err-save-clause-continues g c =
    continues_trans c.loop-number.invariant.1 c.save.ensures.called.performed.continues

pub loop-number-preserved : goal.loop-number-preserved
loop-number-preserved g c = (
  c.save.ensures.same_reference ∙ c.loop-number.invariant.0,
  continues_trans c.loop-number.invariant.1 c.save.ensures.called.performed.continues,
)
