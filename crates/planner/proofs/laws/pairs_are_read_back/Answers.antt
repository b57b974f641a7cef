use Rattle.planner.proofs.ReadBack.{cells_back, entries_back, records_back, tuples_back}
use Rattle.planner.proofs.laws.pairs_are_read_back.Goals as goal

pub returns-clause-tuples : goal.returns-clause-tuples
returns-clause-tuples c = tuples_back

pub returns-clause-cells : goal.returns-clause-cells
returns-clause-cells c = cells_back

pub returns-clause-records : goal.returns-clause-records
returns-clause-records c = records_back

pub returns-clause-entries : goal.returns-clause-entries
returns-clause-entries c = entries_back
