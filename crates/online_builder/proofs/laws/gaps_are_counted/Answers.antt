use Rattle.online_builder.proofs.GapCounts.{counted, one_count}
use Rattle.online_builder.proofs.laws.gaps_are_counted.Goals as goal

pub returns-clause-some : goal.returns-clause-some
returns-clause-some c = counted

pub returns-clause-one : goal.returns-clause-one
returns-clause-one c = one_count
