use Rattle.std.proofs.Common.{◌≡◌, drop}
use Rattle.metadata.specs.Change.{add_types}
use Rattle.metadata.proofs.schema.Schema.add_types.Given as goal

abbrev pub invariant-loop-one : goal.invariant-loop-one
invariant-loop-one l = add_types l.self (drop l.one-index l.types) ≡ add_types l.fn.self l.types
