use Rattle.index_maint.proofs.TotalChanges.{totals_only_change}
use Rattle.index_maint.proofs.TotalLaw.{count_ones, totals_follow, totals_has_within, totals_ignore_others, totals_within}
use Rattle.index_maint.specs.Totals.{count_clears, count_share}
use Rattle.index_maint.proofs.maintainer.CountIndexMaintainer.laws.Goals as goal

pub returns-clause-follows : goal.returns-clause-follows
returns-clause-follows c = totals_follow count_share count_clears count_ones

pub returns-clause-only_changes : goal.returns-clause-only_changes
returns-clause-only_changes c = totals_only_change count_share count_clears count_ones

pub returns-clause-ignores_others : goal.returns-clause-ignores_others
returns-clause-ignores_others c = totals_ignore_others count_share count_clears

pub returns-clause-writes_within : goal.returns-clause-writes_within
returns-clause-writes_within c = totals_within count_share count_clears

pub returns-clause-has_within : goal.returns-clause-has_within
returns-clause-has_within c = totals_has_within count_share count_clears
