use Rattle.index_maint.proofs.KeptLaw.{kept_follows, kept_ignores, kept_of_positions, kept_within, kept_writes_within}
use Rattle.index_maint.proofs.AlikeRecords.{kept_of_alike}
use Rattle.index_maint.proofs.SomeChanges.{kept_only_changes}
use Rattle.index_maint.proofs.laws.kept_indexes_follow.Goals as goal

pub returns-clause-follows : goal.returns-clause-follows
returns-clause-follows c = kept_follows

pub returns-clause-only_changes : goal.returns-clause-only_changes
returns-clause-only_changes c = kept_only_changes

pub returns-clause-ignores_others : goal.returns-clause-ignores_others
returns-clause-ignores_others c = kept_ignores

pub returns-clause-writes_within : goal.returns-clause-writes_within
returns-clause-writes_within c = kept_writes_within

pub returns-clause-has_within : goal.returns-clause-has_within
returns-clause-has_within c = kept_within

pub returns-clause-of_positions : goal.returns-clause-of_positions
returns-clause-of_positions c = kept_of_positions

pub returns-clause-of_alike : goal.returns-clause-of_alike
returns-clause-of_alike c = kept_of_alike
