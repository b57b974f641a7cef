use Rattle.schedule.specs.declared.step.Command.TheVariants.{Execute}
use Rattle.schedule.specs.declared.reply.Reply.TheVariants.{Rows}
use Rattle.runtime.proofs.Replying.{answers, fits, execute_shape}
use Rattle.runtime.proofs.transaction.Txn.execute.Goals as goal

pub rows-requires : goal.rows-requires
rows-requires g c = fits (Execute c.args.plan) Rows (execute_shape c.args.plan) c.args.self.now.client.now c.call-reply.new.self.client.now c.call-reply.result c.call-reply.ensures.called

pub returns-clause-called : goal.returns-clause-called
returns-clause-called g c = answers (Execute c.args.plan) Rows (execute_shape c.args.plan) c.args.self.now.client.now c.call-reply.new.self.client.now c.call-reply.result c.rows.result c.call-reply.ensures.called c.rows.ensures
