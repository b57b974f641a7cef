use Rattle.std.proofs.Common.{arith}
use Rattle.std.proofs.lemmas.Grind.{common_steps}
use Rattle.command_log.specs.Depth.{depth-summed, nesting-names}
use Rattle.command_log.proofs.asked.IndexRequestPart.element.Goals as goal

pub nested-requires : goal.nested-requires
nested-requires c = grind (arith, common_steps, nesting-names c.args.self.now.columns, depth-summed c.args.self.now.summed)
