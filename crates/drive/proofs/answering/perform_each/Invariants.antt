use Rattle.std.proofs.Common.{take}
use Rattle.drive.specs.Driving.{ArePerformed}
use Rattle.drive.proofs.answering.perform_each.Given as goal

abbrev pub invariant-loop-command : goal.invariant-loop-command
invariant-loop-command l = ArePerformed (λ version. l.partial.pairs.now) (take l.command-index l.commands) l.replies.items l.initial.tx l.tx
