use Rattle.range_set.proofs.Decided.{insert_meets, read_decides}
use Rattle.range_set.proofs.laws.reads_decide_positions.Goals as goal

pub returns-clause-decides : goal.returns-clause-decides
returns-clause-decides c = read_decides

pub returns-clause-meets : goal.returns-clause-meets
returns-clause-meets c = insert_meets
