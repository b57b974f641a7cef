-- Lines and characters of a text, as people count them.
use Rattle.std.specs.Prelude.{ℕ, ◌+◌, ◌-◌, ◌^◌, min, nat_eq, nat_le, nat_lt, ◌&&◌, if◌then◌else◌, List, fold, take}

-- one more, as far as numbers of 64 bits go
abbrev pub one_more : ℕ → ℕ
one_more n = min (n + 1) (2 ^ 64 - 1)

-- the line after a byte
abbrev pub line_after : ℕ → ℕ → ℕ
line_after line byte = if nat_eq byte 10 then one_more line else line

-- the character after a byte; a byte that goes on with a character of UTF-8 is none of its own
abbrev pub column_after : ℕ → ℕ → ℕ
column_after column byte =
    if nat_eq byte 10 then 1 else (if nat_le 128 byte && nat_lt byte 192 then column else one_more column)

-- the line and the character in it of what stands at a place of a text, both from 1
abbrev pub line_at : List ℕ → ℕ → ℕ
line_at text at = fold line_after 1 (take at text)

abbrev pub column_at : List ℕ → ℕ → ℕ
column_at text at = fold column_after 1 (take at text)
