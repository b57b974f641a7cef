use Rattle.std.proofs.Common.{ap, sym, ◌∙◌}
use Rattle.drive.proofs.Resting.{kept_first, pushed_first}
use Rattle.drive.proofs.answering.next_wants.Goals.{then-not-has_first+in_ok-push-2, else-not-has_first}
use Rattle.drive.proofs.answering.next_wants.Goals as goal

pub returns-clause-first : goal.returns-clause-first
returns-clause-first c = elim c.if-not-has_first.branch [
  | then-not-has_first+in_ok-push-2 w ↦ pushed_first c.loop-want.wants.items c.if-not-has_first.wants.items c.args.first (ap (λ v. v.items) w.wants-is ∙ w.in_ok-push-2.ensures.items)
  | else-not-has_first w ↦ kept_first c.has_first.result c.as_slice.result.now c.if-not-has_first.wants.items c.args.first.range w.if-not-has_first.false c.has_first.ensures (ap (λ v. v.items) w.wants-is ∙ sym c.as_slice.ensures.value)
]
