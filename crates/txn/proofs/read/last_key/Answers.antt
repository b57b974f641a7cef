use Rattle.txn.proofs.Rounds.{last_of}
use Rattle.txn.proofs.read.last_key.Goals as goal

pub returns-in-Some : goal.returns-in-Some
returns-in-Some c = last_of c.args.key.now c.args.pairs.now c.in-Some.pair.now c.in-Some.ensures.value
