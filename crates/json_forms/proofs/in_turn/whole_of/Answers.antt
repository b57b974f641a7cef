use Rattle.std.proofs.Common.{◌≡◌, get_or, false, ◌==◌, sym, ap, ◌∙◌}
use Rattle.std.proofs.lemmas.Result.{IfOk-weaker}
use Rattle.fast_float.specs.Text.{scan}
use Rattle.serde_json.specs.Read.{number_of, number_from}
use Rattle.json_forms.proofs.in_turn.whole_of.Goals as goal

pub returns : goal.returns
unfolding number_of
returns c =
    let s = c.as_bytes-bytes.result.now in
    let bare : (get_or s 0 0 == 45) ≡ false = sym c.if-has_minus.ensures.value in
    let read : number_of s ≡ number_from false (scan s) = rw bare in
    IfOk-weaker c.unsigned_of.result _ _ (λ whole e. ap number_of (sym c.as_bytes-bytes.ensures.value) ∙ read ∙ ap (number_from false) (sym c.scan.ensures.parts) ∙ e) c.unsigned_of.ensures
