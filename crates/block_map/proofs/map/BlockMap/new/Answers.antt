use Rattle.std.proofs.Common.{ap, length, subst₂, sym}
use Rattle.block_map.proofs.Mapped.{none_whole}
use Rattle.block_map.specs.Blocks.{IsWhole, block_entries}
use Rattle.block_map.proofs.map.BlockMap.new.Goals as goal

pub invariant_of-result : goal.invariant_of-result
invariant_of-result g c =
    ((subst₂ (λ a b. IsWhole a b) (sym c.new.ensures.bounds) (sym c.new.ensures.list) none_whole), sym (ap (λ l. length (block_entries l)) c.new.ensures.list))

pub returns-clause-ordered : goal.returns-clause-ordered
returns-clause-ordered g c =
    (subst₂ (λ a b. IsWhole a b) (sym c.new.ensures.bounds) (sym c.new.ensures.list) none_whole).sorted
