use Rattle.std.proofs.Common.{ℕ, ◌<◌, slice_index}
use Rattle.json_forms.proofs.Labels.{stamp_stands, made}
use Rattle.json_forms.proofs.tuple_json.stamp_value.Goals as goal

pub returns-clause-read : goal.returns-clause-read
returns-clause-read c =
    let small : (i : ℕ) → slice_index c.args.bytes.now i < 256 = c.stamp_known.ensures.bytes in
    made c.labelled.result _ _ c.labelled.ensures (λ levels. stamp_stands levels _ c.args.bytes.now c.stamp_known.ensures.length small (rw c.as_slice.ensures at c.in_ok-encode.ensures))
