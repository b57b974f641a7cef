-- Bytes as an object of JSON.
use Rattle.std.proofs.Common.{◌≡◌, ℕ, ◌<◌, List, slice_index, codes, Some, Result, Ok, Err, IfOk, ap, ◌∙◌}
use Rattle.hex.proofs.HexLemmas.{decode_of-encode_lower}
use Rattle.hex.specs.Hex.{encode_lower}
use Rattle.metadata.specs.declared.cells.Cell.TheVariants.{Bytes}
use Rattle.serde_json.specs.View.{view}
use Rattle.serde_json.specs.declared.value.Value.{Value}
use Rattle.json_forms.specs.CellJson.{cell_in}
use Rattle.json_forms.specs.Json.{labelled}

pub hex_stands : (text content : List ℕ) → ((i : ℕ) → slice_index content i < 256) → text ≡ encode_lower content → cell_in (labelled (codes "hex") text) ≡ Some (Bytes content)
hex_stands text content small e = rw (e, decode_of-encode_lower content small)

-- what is made stands for the bytes
pub hex_made : {E : Type 0} (r : Result Value E) (text content : List ℕ) → IfOk r (λ value. view value ≡ labelled (codes "hex") text) → ((i : ℕ) → slice_index content i < 256) → text ≡ encode_lower content
    → IfOk r (λ value. cell_in (view value) ≡ Some (Bytes content))
hex_made (Ok value) text content is small e = ap cell_in is ∙ hex_stands text content small e
hex_made (Err error) text content is small e = tt
