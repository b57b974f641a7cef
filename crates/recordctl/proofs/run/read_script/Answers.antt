use Rattle.std.proofs.Common.{◌≡◌, ◌⊎◌, IfSome, inr, rules}
use Rattle.recordctl.specs.declared.fault.Fault.TheVariants.{CannotRead}
use Rattle.recordctl.specs.Run.{explains_run}
use Rattle.recordctl.proofs.KnownInput.{begun_of_front, explained_of_front}
use Rattle.recordctl.proofs.run.read_script.Goals as goal

pub returns-in_err-begun-clause-err : goal.returns-in_err-begun-clause-err
returns-in_err-begun-clause-err g c =
    let told : IfSome (g.R.Read.remaining c.args.input.now) (λ text. explains_run text c.in_err-begun.field-0.0) =
    explained_of_front (g.R.Read.remaining c.args.input.now) c.in_ok-text.text.items c.in_err-begun.field-0.0 c.in_ok-text.ensures.ok (rw c.as_slice.ensures.value at c.in_err-begun.ensures.err) in
    let either : (c.in_err-begun.field-0.0 ≡ CannotRead) ⊎ IfSome (g.R.Read.remaining c.args.input.now) (λ text. explains_run text c.in_err-begun.field-0.0) = inr told in
    search (rules, either)

pub returns-clause-ok : goal.returns-clause-ok
returns-clause-ok g c = begun_of_front (g.R.Read.remaining c.args.input.now) c.in_ok-text.text.items c.in_ok-begun.begun c.in_ok-text.ensures.ok (rw c.as_slice.ensures.value at c.in_ok-begun.ensures.ok)
