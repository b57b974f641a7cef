use Rattle.recordctl.proofs.KnownInput.{runnable_begun}
use Rattle.recordctl.proofs.run.drawing_of_input.Goals as goal

pub returns-clause-ok : goal.returns-clause-ok
returns-clause-ok g c = runnable_begun (g.R.Read.remaining c.args.input.now) c.in_ok-text.field-0.begun c.in_ok-text.ensures.ok
