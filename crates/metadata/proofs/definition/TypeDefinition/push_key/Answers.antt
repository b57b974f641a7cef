use Rattle.metadata.proofs.CellItems.{is_tuple-key_items}
use Rattle.metadata.proofs.definition.TypeDefinition.push_key.Goals as goal

pub returns-clause-is_tuple : goal.returns-clause-is_tuple
returns-clause-is_tuple c = is_tuple-key_items c.args.self.now.number c.args.cells.now c.push_number.ensures.fits c.in_ok-push_pack.ensures.cells
