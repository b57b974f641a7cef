-- The bytes to which the encoding gives a meaning, named as FoundationDB's `design/tuple.md` names them.
use Rattle.std.specs.Prelude.{ℕ}

-- ---- codes: an item's code stands first in its spelling

abbrev pub null_code : ℕ
null_code = 0x00

abbrev pub byte_string_code : ℕ
byte_string_code = 0x01

abbrev pub unicode_string_code : ℕ
unicode_string_code = 0x02

abbrev pub nested_tuple_code : ℕ
nested_tuple_code = 0x05

-- the first code of integers: eight bytes, below zero
abbrev pub int_first_code : ℕ
int_first_code = 0x0c

abbrev pub int_zero_code : ℕ
int_zero_code = 0x14

-- the last code of integers: eight bytes, above zero
abbrev pub int_last_code : ℕ
int_last_code = 0x1c

abbrev pub false_code : ℕ
false_code = 0x26

abbrev pub true_code : ℕ
true_code = 0x27

abbrev pub uuid_code : ℕ
uuid_code = 0x30

abbrev pub versionstamp_code : ℕ
versionstamp_code = 0x33

-- ---- other bytes

-- what ends a string and a nested tuple
abbrev pub terminator : ℕ
terminator = 0x00

-- what stands behind a 00 that ends nothing
abbrev pub escape_code : ℕ
escape_code = 0xff

-- no byte is greater
abbrev pub highest_byte : ℕ
highest_byte = 0xff
