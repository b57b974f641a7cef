use Rattle.std.proofs.Common.{ℕ, ◌<◌, slice_index, arith}
use Rattle.json_forms.proofs.Hex.{hex_made}
use Rattle.json_forms.proofs.Labels.{hex_stands, made}
use Rattle.json_forms.proofs.form.hex_value.Goals as goal

pub returns-clause-read : goal.returns-clause-read
returns-clause-read c =
    let small : (i : ℕ) → slice_index c.args.content.now i < 256 = λ i. omega (arith, c.type_inv.content i) in
    hex_made c.labelled.result _ c.args.content.now c.labelled.ensures small c.in_ok-encode.ensures

pub returns-clause-item : goal.returns-clause-item
returns-clause-item c =
    let small : (i : ℕ) → slice_index c.args.content.now i < 256 = λ i. omega (arith, c.type_inv.content i) in
    made c.labelled.result _ _ c.labelled.ensures (λ levels. hex_stands levels _ c.args.content.now small c.in_ok-encode.ensures)
