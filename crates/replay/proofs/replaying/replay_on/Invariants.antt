use Rattle.std.proofs.Common.{List, take}
use Rattle.command_log.specs.declared.entry.Entry.{Entry}
use Rattle.replay.specs.Replaying.{IsLogged, IsReplayOn, log_bytes}
use Rattle.replay.proofs.replaying.replay_on.Given as goal

-- the entries so far are replayed behind those before them
abbrev pub invariant-loop-place : goal.invariant-loop-place
invariant-loop-place l = (before : List Entry) → IsLogged before l.fn.image → IsReplayOn before (take l.place (log_bytes l.log)) l.next
