use Rattle.logged_schedule.proofs.Logs.{written_more}
use Rattle.logged_schedule.proofs.logged.bytes_of_entries.Goals as goal

pub loop-entry-preserved : goal.loop-entry-preserved
loop-entry-preserved c =
    written_more c.args.entries.now c.loop-entry.entry-index c.loop-entry.out.items c.push.new.self.items c.in_ok-bytes_of.field-0 c.entry-item.result c.loop-entry-test.true c.entry-item.is c.in_ok-push.ensures.items c.in_ok-bytes_of.ensures
    c.loop-entry.invariant
