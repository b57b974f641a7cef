use Rattle.std.proofs.Common.{arith}
use Rattle.std.proofs.lemmas.Grind.{common_steps}
use Rattle.metadata.proofs.WrittenDepth.{depth-summed, nesting-numbers}
use Rattle.metadata.proofs.writing.index_element.Goals as goal

pub nested-requires : goal.nested-requires
nested-requires c = grind (arith, common_steps, nesting-numbers c.args.index.now.columns, depth-summed c.args.index.now.summed)
