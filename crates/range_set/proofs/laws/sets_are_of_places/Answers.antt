use Rattle.range_set.proofs.OneSet.{empty_set, one_set, set_within}
use Rattle.range_set.proofs.laws.sets_are_of_places.Goals as goal

pub returns-clause-one : goal.returns-clause-one
returns-clause-one c = one_set

pub returns-clause-within : goal.returns-clause-within
returns-clause-within c = set_within

pub returns-clause-empty : goal.returns-clause-empty
returns-clause-empty c = empty_set
