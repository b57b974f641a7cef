use Rattle.recordctl.proofs.KnownInput.{no_plan_of_front, shown_of_front}
use Rattle.recordctl.proofs.plans.shown_of_input.Goals as goal

pub returns-clause-ok : goal.returns-clause-ok
returns-clause-ok g c = shown_of_front c.args.form (g.R.Read.remaining c.args.input.now) c.in_ok-text.text.items c.shown_of_text.result c.in_ok-text.ensures.ok (rw c.as_slice.ensures.value at c.shown_of_text.ensures.ok)

pub returns-clause-err : goal.returns-clause-err
returns-clause-err g c = no_plan_of_front (g.R.Read.remaining c.args.input.now) c.in_ok-text.text.items c.shown_of_text.result c.in_ok-text.ensures.ok (rw c.as_slice.ensures.value at c.shown_of_text.ensures.err)
