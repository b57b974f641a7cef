use Rattle.std.proofs.Common.{length}
use Rattle.std.specs.Int.{w32, to_le_bytes}
use Rattle.drive_form.specs.Form.{FitsRange, range_bytes}
use Rattle.drive_form.proofs.Spelling.{each_more}
use Rattle.drive_form.proofs.Unread.{fit_turn}
use Rattle.drive_form.proofs.answer_bytes.push_ranges.Goals as goal

pub loop-range-preserved : goal.loop-range-preserved
loop-range-preserved c = record {
  spelled =
      each_more range_bytes c.args.out.now.items (to_le_bytes w32 (length c.args.ranges.now)) c.args.ranges.now c.loop-range.range-index c.range-item.result
      c.loop-range.out.items _ c.loop-range-test.true c.range-item.is c.in_ok-push_range.ensures.ok c.loop-range.invariant.spelled;
  fit =
      fit_turn FitsRange c.args.ranges.now c.loop-range.range-index c.range-item.result c.loop-range-test.true c.range-item.is c.loop-range.invariant.fit
      c.in_ok-push_range.ensures.fits;
}
