use Rattle.logged_schedule.proofs.Logs.{last_more}
use Rattle.logged_schedule.proofs.logged.last_told.Goals as goal

pub loop-entry-preserved : goal.loop-entry-preserved
loop-entry-preserved c version = last_more c.args.entries.now c.loop-entry.entry-index c.entry-item.result version c.loop-entry-test.true c.entry-item.is
