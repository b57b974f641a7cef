use Rattle.txn.proofs.Comparing.{forgotten}
use Rattle.txn.proofs.compared.forget_key.Goals as goal

pub returns : goal.returns
returns c = forgotten c.args.compared.now c.remove.new.self c.args.key.now c.remove.ensures.updates.0
