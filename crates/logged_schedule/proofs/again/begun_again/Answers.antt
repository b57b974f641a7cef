use Rattle.replay.specs.Replaying.{log_bytes}
use Rattle.journal.specs.Sinks.{kept_entries}
use Rattle.logged_schedule.proofs.Rising.{begun_on_replay}
use Rattle.logged_schedule.proofs.again.begun_again.Goals as goal

pub returns-clause-done : goal.returns-clause-done
returns-clause-done c = begun_on_replay c.args.config (log_bytes c.entries.result.now) (kept_entries c.args.log) c.in_ok-image.image c.begun_over.result c.in_ok-image.ensures.replayed c.entries.ensures c.begun_over.ensures.begun
