use Rattle.record_layer.proofs.RunAttempts.{continues_trans}
use Rattle.example_threads.proofs.clerks.SellBody.attempt.Goals as goal

pub returns-in_err-save_copies-clause-continues : goal.returns-in_err-save_copies-clause-continues
returns-in_err-save_copies-clause-continues g c =
    continues_trans c.copies.ensures.continues c.save_copies.ensures.continues

pub returns-clause-continues : goal.returns-clause-continues
returns-clause-continues g c = continues_trans c.copies.ensures.continues c.save_copies.ensures.continues
