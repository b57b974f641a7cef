use Rattle.std.proofs.Common.{subst}
use Rattle.tuple_codec.specs.Item.{IsTuple}
use Rattle.metadata.specs.Record.{primary_key}
use Rattle.metadata.proofs.CellItems.{is_tuple-key_items}
use Rattle.metadata.proofs.record_ref.RecordRef.push_primary_key.Goals as goal

pub returns-clause-is_tuple : goal.returns-clause-is_tuple
returns-clause-is_tuple c =
    subst (λ r. IsTuple (primary_key r)) c.self.view_is
    (is_tuple-key_items c.self.inside.definition.now.number _ c.push_number.ensures.fits c.in_ok-push_pack_at.ensures.cells)
