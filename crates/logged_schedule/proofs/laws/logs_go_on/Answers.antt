use Rattle.logged_schedule.proofs.Lawful.{logs_go_on}
use Rattle.logged_schedule.proofs.laws.logs_go_on.Goals as goal

pub returns : goal.returns
returns c = logs_go_on
