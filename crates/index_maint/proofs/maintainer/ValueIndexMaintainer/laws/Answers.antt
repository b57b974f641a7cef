use Rattle.index_maint.proofs.OnlyChanges.{value_only_changes}
use Rattle.index_maint.proofs.ValueLaw.{value_follows, value_has_within, value_ignores_others, value_within}
use Rattle.index_maint.proofs.maintainer.ValueIndexMaintainer.laws.Goals as goal

pub returns-clause-follows : goal.returns-clause-follows
returns-clause-follows c = value_follows

pub returns-clause-only_changes : goal.returns-clause-only_changes
returns-clause-only_changes c = value_only_changes

pub returns-clause-ignores_others : goal.returns-clause-ignores_others
returns-clause-ignores_others c = value_ignores_others

pub returns-clause-writes_within : goal.returns-clause-writes_within
returns-clause-writes_within c = value_within

pub returns-clause-has_within : goal.returns-clause-has_within
returns-clause-has_within c = value_has_within
