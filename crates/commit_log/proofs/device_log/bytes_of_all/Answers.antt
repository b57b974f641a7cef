use Rattle.std.proofs.Common.{◌+◌, take, arith, subst, sym}
use Rattle.journal.specs.Words.{bytes_of_each}
use Rattle.replay.specs.Replaying.{AreWrittenAs}
use Rattle.commit_log.proofs.Batches.{written_turn}
use Rattle.commit_log.proofs.device_log.bytes_of_all.Goals as goal

pub loop-entry-preserved : goal.loop-entry-preserved
loop-entry-preserved c =
    subst (λ l. AreWrittenAs (bytes_of_each l) (take (c.loop-entry.entry-index + 1) c.args.entries.now)) (sym c.in_ok-push.ensures.items)
    (written_turn c.loop-entry.all.items c.in_ok-bytes_of.field-0 c.args.entries.now c.loop-entry.entry-index c.entry-item.result (omega arith) c.entry-item.is c.loop-entry.invariant c.in_ok-bytes_of.ensures)
