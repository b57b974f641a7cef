use Rattle.std.proofs.Common.{◌≡◌, take}
use Rattle.metadata.proofs.definition.copy_indexes.Given as goal

abbrev pub invariant-loop-index : goal.invariant-loop-index
invariant-loop-index l = l.copy.items ≡ take l.index-index l.indexes
