use Rattle.std.proofs.Common.{arith}
use Rattle.txn.specs.Reads.{seen}
use Rattle.txn.proofs.Whole.{all_read}
use Rattle.txn.proofs.transaction.Transaction.get_all.Goals as goal

pub returns-clause-answer : goal.returns-clause-answer
returns-clause-answer g c = λ m agree.
    all_read (seen c.args.self.now m) c.args.range.now 18446744073709551615 c.in_ok-pairs.pairs.items (omega (arith, c.in_ok-pairs.pairs.small)) (c.in_ok-pairs.ensures.answer m agree)
