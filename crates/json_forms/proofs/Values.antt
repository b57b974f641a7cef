-- The value of a text of JSON.
use Rattle.std.proofs.Common.{◌≡◌, ℕ, ◌≤◌, Bool, true, false, nat_le, List, length, Some, None, IsUtf8, refl, arith}
use Rattle.std.proofs.lemmas.Bool.Decides.{nat_tests}
use Rattle.std.proofs.lemmas.Str.{IsUtf8-from_is_utf8, is_utf8-from_IsUtf8}
use Rattle.std.specs.Str.{is_utf8}
use Rattle.serde_json.specs.Data.{Data}
use Rattle.serde_json.specs.Read.{read}
use Rattle.json_forms.specs.Json.{value_in}

fits : (n most : ℕ) → n ≤ most → nat_le n most ≡ true
fits n most h = grind (arith, nat_tests)

pub value_read : (text : List ℕ) (d : Data) → length text ≤ 4000000 → IsUtf8 text → read text ≡ Some d → value_in text ≡ Some d
value_read text d short utf8 e = rw (fits (length text) 4000000 short, is_utf8-from_IsUtf8 text utf8, e)

pub no_value_read : (text : List ℕ) → length text ≤ 4000000 → (IsUtf8 text → read text ≡ None) → value_in text ≡ None
no_value_read text short none = by (is_utf8 text) refl
  where
    by : (b : Bool) → is_utf8 text ≡ b → value_in text ≡ None
    by true e = rw (fits (length text) 4000000 short, e, none (IsUtf8-from_is_utf8 text e))
    by false e = rw (fits (length text) 4000000 short, e)
