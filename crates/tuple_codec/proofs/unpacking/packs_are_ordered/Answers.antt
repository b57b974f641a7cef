use Rattle.tuple_codec.proofs.TupleOrder.{tuple_order}
use Rattle.tuple_codec.proofs.unpacking.packs_are_ordered.Goals as goal

pub returns : goal.returns
returns c t u h g = tuple_order t u h.items g.items
