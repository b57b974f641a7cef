use Rattle.index_maint.proofs.TotalChanges.{totals_only_change}
use Rattle.index_maint.proofs.TotalLaw.{sum_ones, totals_follow, totals_has_within, totals_ignore_others, totals_within}
use Rattle.index_maint.specs.Totals.{sum_clears, sum_share}
use Rattle.index_maint.proofs.maintainer.SumIndexMaintainer.laws.Goals as goal

pub returns-clause-follows : goal.returns-clause-follows
returns-clause-follows c = totals_follow sum_share sum_clears sum_ones

pub returns-clause-only_changes : goal.returns-clause-only_changes
returns-clause-only_changes c = totals_only_change sum_share sum_clears sum_ones

pub returns-clause-ignores_others : goal.returns-clause-ignores_others
returns-clause-ignores_others c = totals_ignore_others sum_share sum_clears

pub returns-clause-writes_within : goal.returns-clause-writes_within
returns-clause-writes_within c = totals_within sum_share sum_clears

pub returns-clause-has_within : goal.returns-clause-has_within
returns-clause-has_within c = totals_has_within sum_share sum_clears
