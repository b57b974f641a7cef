use Rattle.std.proofs.Common.{List, ◌∙◌, subst, sym}
use Rattle.cluster_core.proofs.Places.{drop_item}
use Rattle.schedule.specs.declared.step.Command.{Command}
use Rattle.runtime.proofs.RunAttempts.{continues_trans}
use Rattle.race.specs.Runs.{CallsEach}
use Rattle.race.proofs.commands.InTurnBody.attempt.Goals as goal

pub returns-in_err-call-clause-continues : goal.returns-in_err-call-clause-continues
returns-in_err-call-clause-continues g c =
    continues_trans c.loop-command.invariant.1 c.call.ensures.called.performed.continues

pub loop-command-preserved : goal.loop-command-preserved
loop-command-preserved g c = (
  c.call.ensures.same_reference ∙ c.loop-command.invariant.0,
  continues_trans c.loop-command.invariant.1 c.call.ensures.called.performed.continues,
  λ end calls. c.loop-command.invariant.2 end
      (subst (λ (left : List Command). CallsEach left c.loop-command.tx.client.now end) (sym (drop_item c.args.self.now.commands.now c.loop-command.command-index c.command-item.result c.loop-command-test.true c.command-item.is))
      (c.call.new.self.client.now, (c.in_ok-call.field-0, c.in_ok-call.ensures.called), calls)),
)
