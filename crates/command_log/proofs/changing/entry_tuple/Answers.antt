use Rattle.std.proofs.Common.{arith}
use Rattle.std.proofs.lemmas.Grind.{common_steps}
use Rattle.command_log.specs.Depth.{nesting-entry}
use Rattle.command_log.proofs.changing.entry_tuple.Goals as goal

pub unreachable-requires : goal.unreachable-requires
unreachable-requires c = grind (arith, common_steps, nesting-entry c.args.entry.now, c.in_default.ensures.1)
