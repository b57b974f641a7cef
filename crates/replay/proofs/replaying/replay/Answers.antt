use Rattle.replay.specs.Replaying.{log_bytes}
use Rattle.replay.proofs.Replays.{new_replayed, new_unreplayed}
use Rattle.replay.proofs.Whys.{new_told}
use Rattle.replay.proofs.replaying.replay.Goals as goal

pub returns-clause-replayed : goal.returns-clause-replayed
returns-clause-replayed c = new_replayed (log_bytes c.args.log.now) c.new.result c.replay_on.result c.new.ensures c.replay_on.ensures.replayed

pub returns-clause-refused : goal.returns-clause-refused
returns-clause-refused c = new_unreplayed (log_bytes c.args.log.now) c.new.result c.replay_on.result c.new.ensures c.replay_on.ensures.refused

pub returns-clause-told : goal.returns-clause-told
returns-clause-told c = new_told (log_bytes c.args.log.now) c.new.result c.replay_on.result c.new.ensures c.replay_on.ensures.told
