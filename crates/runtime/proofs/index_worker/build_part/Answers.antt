use Rattle.std.proofs.Common.{ℕ, List, inl, subst}
use Rattle.schedule.specs.declared.step.Command.TheVariants.{Build}
use Rattle.runtime.specs.Calls.{part_reply}
use Rattle.runtime.specs.Works.{Asks}
use Rattle.runtime.proofs.Replying.{answers, build_shape, fits}
use Rattle.runtime.proofs.index_worker.build_part.Goals as goal

pub part-requires : goal.part-requires
part-requires g c = fits (Build c.in_ok-copy.field-0 c.args.limit) part_reply (build_shape c.in_ok-copy.field-0 c.args.limit) c.args.tx.now.client.now c.call-reply.new.self.client.now c.call-reply.result c.call-reply.ensures.called

pub returns-clause-asks : goal.returns-clause-asks
returns-clause-asks g c =
    subst (λ (name : List ℕ). Asks part_reply (Build name c.args.limit) c.args.tx.now.client.now c.part.result c.call-reply.new.self.client.now) c.in_ok-copy.ensures
    (inl (answers (Build c.in_ok-copy.field-0 c.args.limit) part_reply (build_shape c.in_ok-copy.field-0 c.args.limit) c.args.tx.now.client.now c.call-reply.new.self.client.now c.call-reply.result c.part.result c.call-reply.ensures.called c.part.ensures))
