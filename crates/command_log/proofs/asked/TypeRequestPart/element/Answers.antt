use Rattle.std.proofs.Common.{arith}
use Rattle.std.proofs.lemmas.Grind.{common_steps}
use Rattle.command_log.specs.Depth.{nesting-fields, nesting-names}
use Rattle.command_log.proofs.asked.TypeRequestPart.element.Goals as goal

pub nested-requires : goal.nested-requires
nested-requires c = grind (arith, common_steps, nesting-fields c.args.self.now.fields, nesting-names c.args.self.now.key)
