use Rattle.std.proofs.Common.{◌≡◌, length, take}
use Rattle.replay.specs.Replaying.{AllDone}
use Rattle.replay.proofs.image.perform_each.Given as goal

-- the commands so far are done
abbrev pub invariant-loop-command : goal.invariant-loop-command
invariant-loop-command l = AllDone l.store l.map (take l.command-index l.commands) l.replies.items l.tx.mutations × (length l.replies.items ≡ l.command-index)
