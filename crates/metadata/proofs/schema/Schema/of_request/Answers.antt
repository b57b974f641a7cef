use Rattle.std.proofs.Common.{rules}
use Rattle.metadata.proofs.AskedKinds.{asked_kinds}
use Rattle.metadata.proofs.schema.Schema.of_request.Goals as goal

pub returns-clause-made : goal.returns-clause-made
returns-clause-made c = search rules

pub returns-clause-kinds : goal.returns-clause-kinds
returns-clause-kinds c = λ all. asked_kinds c.args.request.now _ all (returns-clause-made c)
