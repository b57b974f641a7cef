use Rattle.metadata.specs.Cell.{fits}
use Rattle.metadata.proofs.Unpacks.{none_of}
use Rattle.metadata.proofs.cells.Cell.skip_pack.Goals as goal

pub returns-in_default-clause-none : goal.returns-in_default-clause-none
returns-in_default-clause-none c = none_of (fits c.args.kind) c.args.bytes.now (rw c.in_default.is at c.in_ok-cell.ensures.none)
