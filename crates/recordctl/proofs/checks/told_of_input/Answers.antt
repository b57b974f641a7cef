use Rattle.recordctl.proofs.KnownInput.{good_of_front}
use Rattle.recordctl.proofs.checks.told_of_input.Goals as goal

pub returns : goal.returns
returns g c =
    let told = rw c.as_slice.ensures.value at c.in_ok-lines.ensures in
    λ none. good_of_front (g.R.Read.remaining c.args.input.now) c.in_ok-text.text.items c.in_ok-text.ensures.ok (told.0 none)
