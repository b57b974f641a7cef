use Rattle.std.proofs.Common.{ℕ, Option, None, subst}
use Rattle.std.specs.Prelude.{Ok}
use Rattle.std.proofs.lemmas.Result.{err_from_is_err_and}
use Rattle.kv_core.specs.Range.{KeyRange}
use Rattle.schedule.specs.declared.step.Command.TheVariants.{Build}
use Rattle.runtime.specs.Calls.{part_reply}
use Rattle.runtime.specs.Works.{Asks}
use Rattle.runtime.proofs.Works.{mark_ends}
use Rattle.runtime.proofs.index_worker.perform_round.Goals as goal

pub returns-in_err-mark-in-None-clause-performs : goal.returns-in_err-mark-in-None-clause-performs
returns-in_err-mark-in-None-clause-performs g c =
    let told = err_from_is_err_and c.from_residual-in_err-mark-in-None.result c.from_residual-in_err-mark-in-None.ensures.1 in
    let part : Asks part_reply (Build c.args.index.now c.args.limit) c.args.tx.now.client.now (Ok None) c.build_part.new.tx.client.now =
    subst (λ (o : Option (ℕ × KeyRange)). Asks part_reply (Build c.args.index.now c.args.limit) c.args.tx.now.client.now (Ok o) c.build_part.new.tx.client.now) c.in-None.is c.in_ok-records.ensures.asks in
    rw (told.1, told.2) (mark_ends c.args.index.now c.args.limit c.args.tx.now.client.now c.build_part.new.tx.client.now c.mark.new.tx.client.now c.in_err-mark-in-None.field-0.0 part c.in_err-mark-in-None.ensures.asks)
