use Rattle.std.proofs.Common.{subst}
use Rattle.tuple_codec.specs.Item.{AreItems, items_from}
use Rattle.metadata.specs.Cell.{cells_at, items_of}
use Rattle.index_maint.proofs.KeyBounds.{made_below}
use Rattle.metadata.proofs.CellItems.{are_items-items_of}
use Rattle.index_maint.proofs.maintainer.entry_key.Goals as goal

pub returns-clause-below : goal.returns-clause-below
returns-clause-below c =
    made_below c.args.prefix.now c.args.index.now.number _ _ c.in_ok-key.key.items c.push_pack_at.new.out.items c.push_primary_key.new.out.items c.new.result
    c.requires c.in_ok-key.ensures c.in_ok-push_pack_at.ensures.packed c.in_ok-push_primary_key.ensures.packed c.new.ensures

pub returns-clause-items : goal.returns-clause-items
returns-clause-items c = (
  subst (λ cells. AreItems (items_from (items_of (cells_at cells c.args.index.now.columns)))) c.cells.ensures (are_items-items_of _ c.in_ok-push_pack_at.ensures.cells),
  c.in_ok-push_primary_key.ensures.is_tuple.items,
)
