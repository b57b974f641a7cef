use Rattle.std.proofs.Common.{subst}
use Rattle.schedule.specs.Performed.{IsPerformed}
use Rattle.drive.proofs.Moving.{performed_turn}
use Rattle.drive.proofs.answering.perform_each.Goals as goal

pub loop-command-preserved : goal.loop-command-preserved
loop-command-preserved c =
    performed_turn (λ version. c.args.partial.now.pairs.now) c.args.commands.now c.loop-command.command-index c.command-item.result c.loop-command.replies.items c.push.new.self.items c.in_ok-reply.reply c.args.tx.now c.loop-command.tx c.perform_knowing.new.tx
    c.loop-command-test.true c.command-item.is c.in_ok-push.ensures.items c.loop-command.invariant
    (subst (λ number. IsPerformed number (λ version. c.args.partial.now.pairs.now) (λ range error. ⊥) c.command-item.result c.in_ok-reply.reply c.loop-command.tx c.perform_knowing.new.tx) c.first-store.ensures c.in_ok-reply.ensures.performed)
