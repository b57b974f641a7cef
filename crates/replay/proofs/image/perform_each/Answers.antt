use Rattle.std.proofs.Common.{sym, subst, ◌∙◌, arith}
use Rattle.replay.specs.Replaying.{IsRefusalOf}
use Rattle.replay.proofs.Performing.{done_turn, refusal_told, refused_turn}
use Rattle.replay.proofs.image.perform_each.Goals as goal

pub returns-then-not-is_accepted-clause-undone : goal.returns-then-not-is_accepted-clause-undone
returns-then-not-is_accepted-clause-undone c =
    let commands = c.args.commands.now in
    let i = c.loop-command.command-index in
    refusal_told c.args.store c.args.map.now commands i c.in_ok-reply.reply c.refused.result
    (subst (λ place. IsRefusalOf place c.in_ok-reply.reply c.refused.result) (omega (arith, c.len.ensures, c.loop-command.replies.ok.0, c.loop-command.invariant.1)) c.refused.ensures)
    (refused_turn c.args.store c.args.map.now commands i c.command-item.result c.loop-command.replies.items (λ range error. ⊥) (λ range error refused. refused) c.in_ok-reply.reply c.loop-command.tx c.perform_knowing.new.tx
    c.loop-command-test.true c.command-item.is c.loop-command.invariant.0 c.in_ok-reply.ensures.performed (sym c.is_accepted.ensures ∙ c.if-not-is_accepted.true))

pub loop-command-preserved : goal.loop-command-preserved
loop-command-preserved c = (
  done_turn c.args.store c.args.map.now c.args.commands.now c.loop-command.command-index c.command-item.result c.loop-command.replies.items c.push.new.self.items (λ range error. ⊥) (λ range error refused. refused) c.in_ok-reply.reply c.loop-command.tx c.perform_knowing.new.tx
      c.loop-command-test.true c.command-item.is c.in_ok-push.ensures.items c.loop-command.invariant.0 c.in_ok-reply.ensures.performed (sym c.is_accepted.ensures ∙ c.if-not-is_accepted.false),
  omega (arith, c.in_ok-push.ensures.len, c.loop-command.invariant.1),
)
