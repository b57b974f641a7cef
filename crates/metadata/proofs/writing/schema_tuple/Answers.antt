use Rattle.std.proofs.Common.{arith}
use Rattle.std.proofs.lemmas.Grind.{common_steps}
use Rattle.metadata.proofs.WrittenDepth.{nesting-written}
use Rattle.metadata.proofs.writing.schema_tuple.Goals as goal

pub unreachable-requires : goal.unreachable-requires
unreachable-requires c = grind (arith, common_steps, nesting-written c.args.schema.now, c.in-Err.ensures.1)
