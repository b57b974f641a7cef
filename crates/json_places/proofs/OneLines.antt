-- Bytes on one line, one more at a time.
use Rattle.std.proofs.Common.{◌≡◌, ℕ, false, List, [], ◌∷◌, ◌++◌, take}
use Rattle.std.proofs.lemmas.List.Elements.{All-nil, All-push, All-take}
use Rattle.json_places.specs.OneLine.{IsOneLine, ends_line}

pub no_bytes : IsOneLine []
no_bytes = record { each = All-nil (λ byte. ends_line byte ≡ false) }

pub one_byte_more : (bytes : List ℕ) (byte : ℕ) → IsOneLine bytes → ends_line byte ≡ false → IsOneLine (bytes ++ byte ∷ [])
one_byte_more bytes byte is isnt = record { each = All-push (λ b. ends_line b ≡ false) bytes byte is.each isnt }

pub first_bytes : (n : ℕ) (bytes : List ℕ) → IsOneLine bytes → IsOneLine (take n bytes)
first_bytes n bytes is = record { each = All-take (λ b. ends_line b ≡ false) n bytes is.each }
