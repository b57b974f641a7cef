use Rattle.metadata.proofs.PackOrder.{decides, packs_order}
use Rattle.metadata.proofs.PackBegins.{low, null_first, opens}
use Rattle.metadata.proofs.PackRanges.{ranges}
use Rattle.metadata.proofs.order.cells_are_ordered_as_their_packs.Goals as goal

pub returns-clause-order : goal.returns-clause-order
returns-clause-order c = packs_order

pub returns-clause-decides : goal.returns-clause-decides
returns-clause-decides c = decides

pub returns-clause-ranges : goal.returns-clause-ranges
returns-clause-ranges c = ranges

pub returns-clause-low : goal.returns-clause-low
returns-clause-low c = low

pub returns-clause-null_first : goal.returns-clause-null_first
returns-clause-null_first c = null_first

pub returns-clause-opens : goal.returns-clause-opens
returns-clause-opens c = opens
