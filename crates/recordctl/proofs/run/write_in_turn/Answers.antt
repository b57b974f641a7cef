use Rattle.std.proofs.Common.{◌∙◌, refl, subst}
use Rattle.std.proofs.lemmas.List.{take_all}
use Rattle.shell.specs.Further.{HasDoneNext}
use Rattle.shell.proofs.Further.{gone_on_more, gone_on_none}
use Rattle.recordctl.proofs.run.write_in_turn.Goals as goal

pub loop-index-init : goal.loop-index-init
loop-index-init g c = (refl, gone_on_none c.args.database, λ _. refl)

pub loop-index-preserved : goal.loop-index-preserved
loop-index-preserved g c =
    let (same, done, quiet) = c.loop-index.invariant in (
      c.note.ensures.same ∙ same,
      gone_on_more c.args.steps.now c.loop-index.index c.index-steps-index.result c.in_ok-after.reply c.args.database c.loop-index.database c.in_ok-after.after c.loop-index-test.true c.index-steps-index.is done
          c.in_ok-after.ensures,
      λ unwatched. c.note.ensures.quiet (same ∙ unwatched) ∙ quiet unwatched,
    )

pub returns-clause-done : goal.returns-clause-done
returns-clause-done g c =
    subst (λ steps. HasDoneNext steps c.args.database c.loop-index.database) (take_all c.loop-index.index c.args.steps.now c.loop-index-test.false) c.loop-index.invariant.1

pub returns-clause-quiet : goal.returns-clause-quiet
returns-clause-quiet g c = λ unwatched. c.end.ensures.quiet (c.loop-index.invariant.0 ∙ unwatched) ∙ c.loop-index.invariant.2 unwatched
