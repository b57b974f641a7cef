use Rattle.index_maint.proofs.FirstParts.{first_parts}
use Rattle.index_maint.proofs.KeptLaw.{build_within, kept_built, kept_starts, kept_whole}
use Rattle.index_maint.proofs.laws.indexes_are_built.Goals as goal

pub returns-clause-starts : goal.returns-clause-starts
returns-clause-starts c = kept_starts

pub returns-clause-steps : goal.returns-clause-steps
returns-clause-steps c = kept_built

pub returns-clause-ends : goal.returns-clause-ends
returns-clause-ends c = kept_whole

pub returns-clause-within : goal.returns-clause-within
returns-clause-within c = build_within

pub returns-clause-parts : goal.returns-clause-parts
returns-clause-parts c = first_parts
