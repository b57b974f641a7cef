use Rattle.std.proofs.Common.{ap, arith}
use Rattle.tuple_codec.specs.Item.{nesting}
use Rattle.command_log.specs.Depth.{nesting-parts}
use Rattle.command_log.proofs.changing.ChangePart.element.Goals as goal

pub nested-requires : goal.nested-requires
nested-requires c = omega (arith, nesting-parts c.args.self.now, ap nesting c.in_ok-parts_of.ensures.parts)
