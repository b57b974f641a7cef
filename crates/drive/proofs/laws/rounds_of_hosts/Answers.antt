use Rattle.drive.proofs.Rounds.{rounds_end, rounds_end_over}
use Rattle.drive.proofs.laws.rounds_of_hosts.Goals as goal

pub returns-clause-ranges : goal.returns-clause-ranges
returns-clause-ranges c = rounds_end

pub returns-clause-pairs : goal.returns-clause-pairs
returns-clause-pairs c = rounds_end_over
