use Rattle.schedule.specs.declared.step.Command.TheVariants.{Load}
use Rattle.runtime.specs.Calls.{found_reply}
use Rattle.runtime.proofs.Replying.{answers, fits, load_shape}
use Rattle.runtime.proofs.transaction.Txn.load.Goals as goal

pub found-requires : goal.found-requires
found-requires g c = fits (Load c.args.type_name c.args.key) found_reply (load_shape c.args.type_name c.args.key) c.args.self.now.client.now c.call-reply.new.self.client.now c.call-reply.result c.call-reply.ensures.called

pub returns-clause-called : goal.returns-clause-called
returns-clause-called g c = answers (Load c.args.type_name c.args.key) found_reply (load_shape c.args.type_name c.args.key) c.args.self.now.client.now c.call-reply.new.self.client.now c.call-reply.result c.found.result c.call-reply.ensures.called c.found.ensures
