use Rattle.record_layer.proofs.RunAttempts.{continues_trans}
use Rattle.example_threads.proofs.clerks.make_shop.Goals as goal

pub returns-clause-continues : goal.returns-clause-continues
returns-clause-continues g c =
    continues_trans c.call.ensures.called.performed.continues c.save_copies.ensures.continues
