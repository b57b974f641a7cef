use Rattle.std.proofs.Common.{ℕ, List, inl, subst}
use Rattle.schedule.specs.declared.step.Command.TheVariants.{Readable}
use Rattle.runtime.specs.Calls.{marked_reply}
use Rattle.runtime.specs.Works.{Asks}
use Rattle.runtime.proofs.Replying.{answers, fits, readable_shape}
use Rattle.runtime.proofs.index_worker.mark.Goals as goal

pub marked-requires : goal.marked-requires
marked-requires g c = fits (Readable c.in_ok-copy.field-0) marked_reply (readable_shape c.in_ok-copy.field-0) c.args.tx.now.client.now c.call-reply.new.self.client.now c.call-reply.result c.call-reply.ensures.called

pub returns-clause-asks : goal.returns-clause-asks
returns-clause-asks g c =
    subst (λ (name : List ℕ). Asks marked_reply (Readable name) c.args.tx.now.client.now c.marked.result c.call-reply.new.self.client.now) c.in_ok-copy.ensures
    (inl (answers (Readable c.in_ok-copy.field-0) marked_reply (readable_shape c.in_ok-copy.field-0) c.args.tx.now.client.now c.call-reply.new.self.client.now c.call-reply.result c.marked.result c.call-reply.ensures.called c.marked.ensures))
