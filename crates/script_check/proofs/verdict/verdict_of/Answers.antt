use Rattle.std.proofs.Common.{◌≡◌, Some, sym, ◌∙◌}
use Rattle.std.proofs.lemmas.Result.{IfOk-weaker}
use Rattle.script_check.proofs.Verdicts.{good_both}
use Rattle.script_check.proofs.verdict.verdict_of.Goals as goal

pub returns-in-Some : goal.returns-in-Some
returns-in-Some c =
    let both = good_both c.args.text.now c.in-Some.form (sym c.in-Some.is ∙ c.in_ok-form.ensures) in
    IfOk-weaker c.verdict_as.result _ _ (λ verdict h. (λ good. both.0 (h.0 good), λ is. h.1 (both.1 is))) c.verdict_as.ensures
