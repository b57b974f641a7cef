use Rattle.schedule.specs.declared.step.Command.TheVariants.{Remove}
use Rattle.runtime.specs.Calls.{removed_reply}
use Rattle.runtime.proofs.Replying.{answers, fits, remove_shape}
use Rattle.runtime.proofs.transaction.Txn.remove.Goals as goal

pub removed-requires : goal.removed-requires
removed-requires g c = fits (Remove c.args.type_name c.args.key) removed_reply (remove_shape c.args.type_name c.args.key) c.args.self.now.client.now c.call-reply.new.self.client.now c.call-reply.result c.call-reply.ensures.called

pub returns-clause-called : goal.returns-clause-called
returns-clause-called g c = answers (Remove c.args.type_name c.args.key) removed_reply (remove_shape c.args.type_name c.args.key) c.args.self.now.client.now c.call-reply.new.self.client.now c.call-reply.result c.removed.result c.call-reply.ensures.called c.removed.ensures
