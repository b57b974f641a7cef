use Rattle.std.proofs.Common.{List, ℕ, ◌∙◌, ap₂}
use Rattle.journal.specs.Block.{mirrors, counts_fit}
use Rattle.journal.proofs.block.is_fitting.Goals as goal

pub returns : goal.returns
unfolding counts_fit
returns c = c.is_mirror.ensures ∙ ap₂ (λ (a b : List ℕ). mirrors a b) c.halves.ensures.counts c.halves.ensures.mirror
