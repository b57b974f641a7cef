use Rattle.txn.proofs.Exits.{exit_with}
use Rattle.range_set.proofs.Telling.{told_by, untold_by}
use Rattle.range_set.proofs.reading.position_told.Goals as goal

pub returns-clause-told : goal.returns-clause-told
returns-clause-told c =
    told_by c.args.place.now c.args.position.now c.args.pairs.now c.in_ok-ranges.ranges.items c.as_slice.result.now c.ends_behind-told.result c.bytes_known.ensures c.in_ok-ranges.ensures.found c.as_slice.ensures.value c.ends_behind-told.ensures

pub returns-in_err-ranges-clause-refused : goal.returns-in_err-ranges-clause-refused
returns-in_err-ranges-clause-refused c =
    exit_with c.from_residual.result c.in_err-ranges.field-0.0 _ c.from_residual.ensures
    (untold_by c.args.place.now c.args.position.now c.args.pairs.now c.in_err-ranges.field-0.0 c.bytes_known.ensures c.in_err-ranges.ensures.refused)
