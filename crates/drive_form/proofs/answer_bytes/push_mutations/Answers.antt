use Rattle.std.proofs.Common.{length}
use Rattle.std.specs.Int.{w32, to_le_bytes}
use Rattle.drive_form.specs.Form.{FitsMutation, mutation_bytes}
use Rattle.drive_form.proofs.Spelling.{each_more}
use Rattle.drive_form.proofs.Unread.{fit_turn}
use Rattle.drive_form.proofs.answer_bytes.push_mutations.Goals as goal

pub loop-mutation-preserved : goal.loop-mutation-preserved
loop-mutation-preserved c = record {
  spelled =
      each_more mutation_bytes c.args.out.now.items (to_le_bytes w32 (length c.args.mutations.now)) c.args.mutations.now c.loop-mutation.mutation-index c.mutation-item.result
      c.loop-mutation.out.items _ c.loop-mutation-test.true c.mutation-item.is c.in_ok-push_mutation.ensures.ok c.loop-mutation.invariant.spelled;
  fit =
      fit_turn FitsMutation c.args.mutations.now c.loop-mutation.mutation-index c.mutation-item.result c.loop-mutation-test.true c.mutation-item.is c.loop-mutation.invariant.fit
      c.in_ok-push_mutation.ensures.fits;
}
