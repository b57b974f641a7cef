use Rattle.txn.proofs.Exits.{exit_with}
use Rattle.range_set.proofs.Telling.{ranges_damaged, ranges_found_in, ranges_found_there}
use Rattle.range_set.proofs.ranges.read_ranges.Goals as goal

pub returns-in_err-ranges-clause-refused : goal.returns-in_err-ranges-clause-refused
returns-in_err-ranges-clause-refused g c =
    exit_with c.from_residual-in_err-ranges.result c.in_err-ranges.field-0.0 _ c.from_residual-in_err-ranges.ensures
    (ranges_damaged (g.S.Snapshot.map_at c.args.db.now) (g.S.Snapshot.may_refuse c.args.db.now) c.args.place.now c.args.tx.now c.get_all.new.self c.in_ok-range.range c.in_ok-pairs.pairs.items c.as_slice.result.now
    c.in_ok-range.ensures c.in_ok-pairs.ensures.reads c.in_ok-pairs.ensures.answer c.as_slice.ensures.value c.in_err-ranges.field-0.0 c.in_err-ranges.ensures.refused)

pub returns-clause-set : goal.returns-clause-set
returns-clause-set g c =
    ranges_found_there (g.S.Snapshot.map_at c.args.db.now) (g.S.Snapshot.may_refuse c.args.db.now) c.args.place.now c.args.tx.now c.get_all.new.self c.in_ok-range.range c.in_ok-pairs.pairs.items c.as_slice.result.now
    c.in_ok-range.ensures c.in_ok-pairs.ensures.reads c.in_ok-pairs.ensures.answer c.as_slice.ensures.value c.in_ok-ranges.ranges.items c.in_ok-ranges.ensures.found

pub returns-clause-told : goal.returns-clause-told
returns-clause-told g c =
    ranges_found_in (g.S.Snapshot.map_at c.args.db.now) (g.S.Snapshot.may_refuse c.args.db.now) c.args.place.now c.args.tx.now c.get_all.new.self c.in_ok-range.range c.in_ok-pairs.pairs.items c.as_slice.result.now
    c.in_ok-range.ensures c.in_ok-pairs.ensures.reads c.in_ok-pairs.ensures.answer c.as_slice.ensures.value c.in_ok-ranges.ranges.items c.in_ok-ranges.ensures.found
