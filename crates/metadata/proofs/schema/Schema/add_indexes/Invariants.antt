use Rattle.std.proofs.Common.{◌≡◌, drop}
use Rattle.metadata.specs.Asked.{add_indexes}
use Rattle.metadata.proofs.schema.Schema.add_indexes.Given as goal

abbrev pub invariant-loop-index : goal.invariant-loop-index
invariant-loop-index l = add_indexes l.self (drop l.index-index l.indexes) ≡ add_indexes l.fn.self l.indexes
