use Rattle.journal.proofs.Changes.{no_end}
use Rattle.journal.proofs.Readings.{stands_end, is_damaged}
use Rattle.journal.proofs.Splits.{splits}
use Rattle.journal.proofs.laws.readings_are_whole_beginnings.Goals as goal

pub returns-clause-split : goal.returns-clause-split
returns-clause-split c = splits

pub returns-clause-ends : goal.returns-clause-ends
returns-clause-ends c = stands_end

pub returns-clause-damaged : goal.returns-clause-damaged
returns-clause-damaged c = is_damaged

pub returns-clause-no_end : goal.returns-clause-no_end
returns-clause-no_end c = no_end
