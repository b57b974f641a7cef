use Rattle.range_set.proofs.RangesTold.{gap_is_told, ranges_are_told}
use Rattle.range_set.proofs.laws.pairs_tell_ranges.Goals as goal

pub returns-clause-ranges : goal.returns-clause-ranges
returns-clause-ranges c = ranges_are_told

pub returns-clause-gap : goal.returns-clause-gap
returns-clause-gap c = gap_is_told
