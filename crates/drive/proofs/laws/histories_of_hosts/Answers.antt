use Rattle.drive.proofs.Committed.{host_histories_hold, answers_are_calls}
use Rattle.drive.proofs.laws.histories_of_hosts.Goals as goal

pub returns-clause-hold : goal.returns-clause-hold
returns-clause-hold c = host_histories_hold

pub returns-clause-calls : goal.returns-clause-calls
returns-clause-calls c = answers_are_calls
