use Rattle.plan_exec.proofs.Within.{reads_within, until_within}
use Rattle.plan_exec.proofs.laws.plans_read_their_scans.Goals as goal

pub returns-clause-within : goal.returns-clause-within
returns-clause-within c = reads_within

pub returns-clause-until : goal.returns-clause-until
returns-clause-until c = until_within
