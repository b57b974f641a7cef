use Rattle.schedule.specs.declared.step.Command.TheVariants.{Plan}
use Rattle.schedule.specs.declared.reply.Reply.TheVariants.{Planned}
use Rattle.runtime.proofs.Replying.{answers, fits, plan_shape}
use Rattle.runtime.proofs.transaction.Txn.plan.Goals as goal

pub planned-requires : goal.planned-requires
planned-requires g c = fits (Plan c.args.query) Planned (plan_shape c.args.query) c.args.self.now.client.now c.call-reply.new.self.client.now c.call-reply.result c.call-reply.ensures.called

pub returns-clause-called : goal.returns-clause-called
returns-clause-called g c = answers (Plan c.args.query) Planned (plan_shape c.args.query) c.args.self.now.client.now c.call-reply.new.self.client.now c.call-reply.result c.planned.result c.call-reply.ensures.called c.planned.ensures
