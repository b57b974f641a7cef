use Rattle.std.proofs.Common.{arith}
use Rattle.std.proofs.lemmas.Grind.{common_steps}
use Rattle.metadata.proofs.WrittenDepth.{nesting-fields, nesting-numbers}
use Rattle.metadata.proofs.writing.type_element.Goals as goal

pub nested-requires : goal.nested-requires
nested-requires c = grind (arith, common_steps, nesting-fields c.args.definition.now.fields, nesting-numbers c.args.definition.now.key)
