use Rattle.schedule.specs.declared.step.Command.TheVariants.{Aggregate}
use Rattle.schedule.specs.declared.reply.Reply.TheVariants.{Total}
use Rattle.runtime.proofs.Replying.{answers, fits, aggregate_shape}
use Rattle.runtime.proofs.transaction.Txn.aggregate.Goals as goal

pub total-requires : goal.total-requires
total-requires g c = fits (Aggregate c.args.index c.args.group) Total (aggregate_shape c.args.index c.args.group) c.args.self.now.client.now c.call-reply.new.self.client.now c.call-reply.result c.call-reply.ensures.called

pub returns-clause-called : goal.returns-clause-called
returns-clause-called g c = answers (Aggregate c.args.index c.args.group) Total (aggregate_shape c.args.index c.args.group) c.args.self.now.client.now c.call-reply.new.self.client.now c.call-reply.result c.total.result c.call-reply.ensures.called c.total.ensures
