use Rattle.std.proofs.Common.{arith}
use Rattle.std.proofs.lemmas.Grind.{common_steps}
use Rattle.metadata.proofs.CellItems.{nesting-items_of}
use Rattle.metadata.proofs.record.key_tuple.Goals as goal

pub flat_tuple-requires : goal.flat_tuple-requires
flat_tuple-requires c = grind (arith, common_steps, nesting-items_of c.args.cells.now)
