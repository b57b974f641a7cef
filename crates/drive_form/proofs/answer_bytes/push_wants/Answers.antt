use Rattle.std.proofs.Common.{length}
use Rattle.std.specs.Int.{w32, to_le_bytes}
use Rattle.drive_form.specs.Form.{FitsWant, want_bytes}
use Rattle.drive_form.proofs.Spelling.{each_more}
use Rattle.drive_form.proofs.Unread.{fit_turn}
use Rattle.drive_form.proofs.answer_bytes.push_wants.Goals as goal

pub loop-want-preserved : goal.loop-want-preserved
loop-want-preserved c = record {
  spelled =
      each_more want_bytes c.args.out.now.items (to_le_bytes w32 (length c.args.wants.now)) c.args.wants.now c.loop-want.want-index c.want-item.result
      c.loop-want.out.items _ c.loop-want-test.true c.want-item.is c.in_ok-push_want.ensures.ok c.loop-want.invariant.spelled;
  fit =
      fit_turn FitsWant c.args.wants.now c.loop-want.want-index c.want-item.result c.loop-want-test.true c.want-item.is c.loop-want.invariant.fit
      c.in_ok-push_want.ensures.fits;
}
