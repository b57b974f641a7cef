use Rattle.std.proofs.Common.{◌≡◌, take}
use Rattle.metadata.proofs.schema.copy_types.Given as goal

abbrev pub invariant-loop-definition : goal.invariant-loop-definition
invariant-loop-definition l = l.copy.items ≡ take l.definition-index l.types
