use Rattle.std.proofs.Common.{List, ℕ, ◌∙◌, ap₂}
use Rattle.journal.specs.Block.{mirrored, counts_torn}
use Rattle.journal.proofs.block.is_torn.Goals as goal

pub returns : goal.returns
unfolding counts_torn
returns c = c.was_mirror.ensures ∙ ap₂ (λ (a b : List ℕ). mirrored a b) c.halves.ensures.counts c.halves.ensures.mirror
