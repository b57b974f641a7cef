use Rattle.std.proofs.Common.{[], ◌∷◌, ◌++◌, ap, subst, sym, ◌∙◌}
use Rattle.drive_form.specs.Form.{FitEach, FitsWant, counted, mutation_bytes, range_bytes, sized, want_bytes}
use Rattle.drive_form.specs.Spelled.{IsDrivenBytes}
use Rattle.drive_form.proofs.Spelling.{done_in_turn}
use Rattle.drive_form.proofs.answer_bytes.answer_of.Goals.{in-Wants+in_ok-push-in-Wants+in_ok-push_wants-in-Wants, in-Done+in_ok-push-in-Done+in_ok-push_answer-in-Done}
use Rattle.drive_form.proofs.answer_bytes.answer_of.Goals as goal

pub returns : goal.returns
returns c = elim c.match-driven.branch [
  | in-Wants+in_ok-push-in-Wants+in_ok-push_wants-in-Wants w ↦ subst (λ driven. IsDrivenBytes driven c.match-driven.out.items) (sym w.in-Wants.is) (
    ap (λ o. o.items) w.out-is ∙ w.in_ok-push_wants-in-Wants.ensures.ok
        ∙ ap (λ bs. bs ++ counted want_bytes w.as_slice.result.now) (w.in_ok-push-in-Wants.ensures.items ∙ ap (λ bs. bs ++ 0 ∷ []) c.new-out.ensures.items)
        ∙ ap (λ wants. 0 ∷ counted want_bytes wants) w.as_slice.ensures.value,
    subst (FitEach FitsWant) w.as_slice.ensures.value w.in_ok-push_wants-in-Wants.ensures.fits,
  )
  | in-Done+in_ok-push-in-Done+in_ok-push_answer-in-Done w ↦
      let told = w.in_ok-push_answer-in-Done.ensures.spelled in
      let answer = w.in-Done.answer in
      subst (λ driven. IsDrivenBytes driven c.match-driven.out.items) (sym w.in-Done.is) record {
        texts = told.0;
        each = told.1;
        spelled = ap (λ o. o.items) w.out-is ∙ done_in_turn w.push-in-Done.new.self.items _ (counted sized told.0) (counted range_bytes answer.request.reads) (counted mutation_bytes answer.request.mutations)
            (w.in_ok-push-in-Done.ensures.items ∙ ap (λ bs. bs ++ 1 ∷ []) c.new-out.ensures.items) told.2;
        fit = told.3;
        reads = w.in_ok-push_answer-in-Done.ensures.reads;
        written = w.in_ok-push_answer-in-Done.ensures.written;
      }
]
