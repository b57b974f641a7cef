use Rattle.schedule.specs.declared.step.Command.TheVariants.{Save}
use Rattle.runtime.specs.Calls.{saved_reply}
use Rattle.runtime.proofs.Replying.{answers, fits, save_shape}
use Rattle.runtime.proofs.transaction.Txn.save.Goals as goal

pub saved-requires : goal.saved-requires
saved-requires g c = fits (Save c.args.type_name c.args.cells) saved_reply (save_shape c.args.type_name c.args.cells) c.args.self.now.client.now c.call-reply.new.self.client.now c.call-reply.result c.call-reply.ensures.called

pub returns-clause-called : goal.returns-clause-called
returns-clause-called g c = answers (Save c.args.type_name c.args.cells) saved_reply (save_shape c.args.type_name c.args.cells) c.args.self.now.client.now c.call-reply.new.self.client.now c.call-reply.result c.saved.result c.call-reply.ensures.called c.saved.ensures
