use Rattle.range_set.proofs.Gaps.{first_gap_is, same_gap}
use Rattle.range_set.proofs.laws.first_gaps_are_of_positions.Goals as goal

pub returns-clause-first : goal.returns-clause-first
returns-clause-first c = first_gap_is

pub returns-clause-same : goal.returns-clause-same
returns-clause-same c = same_gap
