use Rattle.std.proofs.Common.{◌+◌, take, arith, subst, sym}
use Rattle.command_log.specs.Answers.{IsWrittenAs}
use Rattle.journal.specs.Words.{bytes_of_each}
use Rattle.replay.specs.Replaying.{AreWrittenAs}
use Rattle.commit_log.proofs.Openings.{read_turn}
use Rattle.commit_log.proofs.opening.entries_of.Goals as goal

pub loop-bytes-preserved : goal.loop-bytes-preserved
loop-bytes-preserved c =
    let is : IsWrittenAs c.bytes-item.result.items c.in-Ok.entry = subst (λ b. IsWrittenAs b c.in-Ok.entry) c.as_slice.ensures.value c.in-Ok.ensures.read in
    subst (AreWrittenAs (bytes_of_each (take (c.loop-bytes.bytes-index + 1) c.args.log.now))) (sym c.in_ok-push-in-Ok.ensures.items)
    (read_turn c.args.log.now c.loop-bytes.bytes-index c.bytes-item.result c.loop-bytes.all.items c.in-Ok.entry (omega arith) c.bytes-item.is c.loop-bytes.invariant is)
