use Rattle.logged_schedule.proofs.Listed.{logs_commits}
use Rattle.logged_schedule.proofs.laws.commits_are_logged.Goals as goal

pub returns : goal.returns
returns c = logs_commits
