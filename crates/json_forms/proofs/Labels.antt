-- Objects of one key, and what they stand for.
use Rattle.std.proofs.Common.{◌≡◌, ℕ, ◌<◌, ◌^◌, List, length, slice_index, codes, Option, Some, Result, Ok, Err, IfOk, ℤ, ap, ◌∙◌}
use Rattle.std.specs.Fmt.{signed_decimal}
use Rattle.hex.proofs.HexLemmas.{decode_of-encode_lower, decode_sized-encode_lower}
use Rattle.hex.specs.Hex.{encode_lower}
use Rattle.tuple_codec.specs.Item.{Item, bytes, int, uuid, stamp, magnitude}
use Rattle.uuid.specs.Text.{parsed}
use Rattle.serde_json.specs.Data.{Data}
use Rattle.serde_json.specs.View.{view}
use Rattle.serde_json.specs.declared.value.Value.{Value}
use Rattle.json_forms.specs.Json.{labelled}
use Rattle.json_forms.specs.TupleJson.{json_item}
use Rattle.json_forms.proofs.Decimals.{int_written}

pub hex_stands : (levels : ℕ) (text content : List ℕ) → ((i : ℕ) → slice_index content i < 256) → text ≡ encode_lower content → json_item levels (labelled (codes "hex") text) ≡ Some (bytes content)
hex_stands levels text content small e = rw (e, decode_of-encode_lower content small)

pub int_stands : (levels : ℕ) (text : List ℕ) (z : ℤ) → magnitude z < 2 ^ 64 → text ≡ signed_decimal z → json_item levels (labelled (codes "int") text) ≡ Some (int z)
int_stands levels text z small e = rw (e, int_written z small)

pub uuid_stands : (levels : ℕ) (text number : List ℕ) → Some number ≡ parsed text → json_item levels (labelled (codes "uuid") text) ≡ Some (uuid number)
uuid_stands levels text number e = rw (← e)

pub stamp_stands : (levels : ℕ) (text content : List ℕ) → length content ≡ 12 → ((i : ℕ) → slice_index content i < 256) → text ≡ encode_lower content → json_item levels (labelled (codes "stamp") text) ≡ Some (stamp content)
stamp_stands levels text content twelve small e = rw (e, decode_sized-encode_lower content 12 twelve small)

-- what is made, where it is made
pub made : {E : Type 0} (r : Result Value E) (d : Data) (found : Option Item) → IfOk r (λ value. view value ≡ d) → ((levels : ℕ) → json_item levels d ≡ found)
    → IfOk r (λ value. (levels : ℕ) → json_item levels (view value) ≡ found)
made (Ok value) d found is e = λ levels. ap (json_item levels) is ∙ e levels
made (Err error) d found is e = tt

pub at_levels : {E : Type 0} (levels : ℕ) (r : Result Value E) (found : Option Item) → IfOk r (λ value. (levels : ℕ) → json_item levels (view value) ≡ found) → IfOk r (λ value. json_item levels (view value) ≡ found)
at_levels levels (Ok value) found h = h levels
at_levels levels (Err error) found h = tt
