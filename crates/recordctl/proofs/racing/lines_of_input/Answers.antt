use Rattle.recordctl.proofs.KnownInput.{raced_of_front, unraced_of_front}
use Rattle.recordctl.proofs.racing.lines_of_input.Goals as goal

pub returns-clause-ok : goal.returns-clause-ok
returns-clause-ok g c = raced_of_front (g.R.Read.remaining c.args.input.now) c.in_ok-text.text.items c.lines_of_text.result c.in_ok-text.ensures.ok (rw c.as_slice.ensures.value at c.lines_of_text.ensures.ok)

pub returns-clause-err : goal.returns-clause-err
returns-clause-err g c = unraced_of_front (g.R.Read.remaining c.args.input.now) c.in_ok-text.text.items c.lines_of_text.result c.in_ok-text.ensures.ok (rw c.as_slice.ensures.value at c.lines_of_text.ensures.err)
