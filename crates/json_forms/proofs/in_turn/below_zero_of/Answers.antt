use Rattle.std.proofs.Common.{◌≡◌, drop, get_or, true, ◌==◌, sym, ap, ◌∙◌, arith, take_all, length-drop}
use Rattle.std.proofs.lemmas.Result.{IfOk-weaker}
use Rattle.fast_float.specs.Text.{scan}
use Rattle.serde_json.specs.Read.{number_of, number_from}
use Rattle.json_forms.proofs.in_turn.below_zero_of.Goals as goal

pub returns : goal.returns
unfolding number_of
returns c =
    let s = c.as_bytes-bytes.result.now in
    let signed : (get_or s 0 0 == 45) ≡ true = sym c.if-not-has_minus.ensures.value in
    let parts : c.scan.result ≡ scan (drop 1 s) = c.scan.ensures.parts ∙ ap scan (take_all _ (drop 1 s) (omega (arith, length-drop 1 s))) in
    let read : number_of s ≡ number_from true (scan (drop 1 s)) = rw signed in
    IfOk-weaker c.negative_of.result _ _ (λ whole e. ap number_of (sym c.as_bytes-bytes.ensures.value) ∙ read ∙ ap (number_from true) (sym parts) ∙ e) c.negative_of.ensures
