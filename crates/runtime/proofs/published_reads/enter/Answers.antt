use Rattle.runtime.proofs.Moves.{enters}
use Rattle.runtime.proofs.published_reads.enter.Goals as goal

pub enter_as-requires : goal.enter_as-requires
enter_as-requires c = enters _ _
