use Rattle.txn.proofs.Exits.{exit_with}
use Rattle.range_set.specs.Calls.{all_ranges}
use Rattle.range_set.specs.Gaps.{SamePositions}
use Rattle.range_set.specs.Steps.{set_memory}
use Rattle.range_set.proofs.Answered.{wanting}
use Rattle.range_set.proofs.Telling.{gap_read, gap_read_in}
use Rattle.range_set.proofs.reading.first_gap.Goals as goal

pub returns-in_err-gap-clause-refused : goal.returns-in_err-gap-clause-refused
returns-in_err-gap-clause-refused g c =
    exit_with c.from_residual-in_err-gap.result set_memory _ c.from_residual-in_err-gap.ensures
    (wanting (g.S.Snapshot.map_at c.args.db.now) (g.S.Snapshot.may_refuse c.args.db.now) c.args.place.now (all_ranges c.args.place.now) c.args.tx.now c.read_ranges.new.tx
    (SamePositions c.in_ok-ranges.ranges) c.in_ok-ranges.ensures.set)

pub returns-clause-gap : goal.returns-clause-gap
returns-clause-gap g c =
    gap_read (g.S.Snapshot.map_at c.args.db.now) (g.S.Snapshot.may_refuse c.args.db.now) c.args.place.now c.args.tx.now c.read_ranges.new.tx c.in_ok-ranges.ranges c.in_ok-gap.gap c.in_ok-gap.ensures c.in_ok-ranges.ensures.set

pub returns-clause-told : goal.returns-clause-told
returns-clause-told g c =
    gap_read_in (g.S.Snapshot.map_at c.args.db.now) (g.S.Snapshot.may_refuse c.args.db.now) c.args.place.now c.args.tx.now c.read_ranges.new.tx c.in_ok-ranges.ranges c.in_ok-gap.gap c.in_ok-gap.ensures c.in_ok-ranges.ensures.told
