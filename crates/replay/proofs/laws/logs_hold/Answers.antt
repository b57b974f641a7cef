use Rattle.replay.proofs.Histories.{histories_replay}
use Rattle.replay.proofs.Logs.{changes_suffice, logs_stores}
use Rattle.replay.proofs.Wholes.{pairs_suffice}
use Rattle.replay.proofs.laws.logs_hold.Goals as goal

pub returns : goal.returns
returns c = record { stores = logs_stores; suffice = changes_suffice; histories = histories_replay; pairs = pairs_suffice }
