use Rattle.std.proofs.Common.{◌≡◌, string_bytes}
use Rattle.std.proofs.lemmas.Int.{to_z-of_z}
use Rattle.std.specs.Fmt.{signed_decimal}
use Rattle.std.specs.Int.{w128}
use Rattle.json_forms.proofs.Decimals.{fits_wide}
use Rattle.json_forms.proofs.Labels.{int_stands, made}
use Rattle.json_forms.proofs.tuple_json.int_value.Goals as goal

pub returns-in_ok-format-in-Err-clause-read : goal.returns-in_ok-format-in-Err-clause-read
returns-in_ok-format-in-Err-clause-read c =
    let digits : string_bytes c.in_ok-format-in-Err.field-0 ≡ signed_decimal c.args.number = rw (to_z-of_z w128 _ (fits_wide _ c.get-whole.ensures.fits), c.get-whole.ensures.value) at c.in_ok-format-in-Err.ensures.ok in
    made c.labelled.result _ _ c.labelled.ensures (λ levels. int_stands levels _ c.args.number (rw c.get-whole.ensures.value at c.get-whole.ensures.fits) digits)
