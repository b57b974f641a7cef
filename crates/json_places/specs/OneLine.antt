-- Bytes on one line.
use Rattle.std.specs.Prelude.{◌≡◌, ℕ, nat_eq, ◌||◌, Bool, false, List, All}

-- a byte ends a line
abbrev pub ends_line : ℕ → Bool
ends_line byte = nat_eq byte 10 || nat_eq byte 13

-- none of these bytes ends a line
pub record IsOneLine (bytes : List ℕ) : Type 0 where
  pub each : All (λ byte. ends_line byte ≡ false) bytes
