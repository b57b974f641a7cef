use Rattle.record_layer.proofs.RunAttempts.{continues_trans}
use Rattle.example_threads.proofs.clerks.FillBody.attempt.Goals as goal

pub returns-clause-continues : goal.returns-clause-continues
returns-clause-continues g c = continues_trans c.copies.ensures.continues c.make_shop.ensures.continues
