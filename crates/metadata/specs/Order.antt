-- The order of cells: that of their packs.
use Rattle.std.specs.Prelude.{◌≡◌, ℕ, Bool, true, false, List, [], ◌∷◌, ◌++◌, nat_lt}
use Rattle.std.specs.declared.cmp.Ordering.{Ordering}
use Rattle.std.specs.Ordering.{nat_cmp, int_cmp}
use Rattle.std.specs.Cmp.Lexicographic.{slice_cmp}
use Rattle.tuple_codec.specs.Codes.{byte_string_code, unicode_string_code, escape_code}
use Rattle.tuple_codec.specs.Order.{bytes_cmp}
use Rattle.tuple_codec.specs.Spelling.{escaped}
use Rattle.tuple_codec.specs.Subspace.{BeginsWith}
use Rattle.metadata.specs.declared.cells.Cell.{Cell}
use Rattle.metadata.specs.declared.cells.Cell.TheVariants.{Null, Int, Text, Bytes}

-- where a kind of cell stands among the kinds
abbrev pub rank : Cell → ℕ
rank Null = 0
rank (Bytes value) = 1
rank (Text value) = 2
rank (Int value) = 3

-- null first, then byte strings and texts, both by their bytes, then whole numbers by value
abbrev pub cell_cmp : Cell → Cell → Ordering
cell_cmp (Int a) (Int b) = int_cmp a b
cell_cmp (Text a) (Text b) = bytes_cmp a b
cell_cmp (Bytes a) (Bytes b) = bytes_cmp a b
cell_cmp a b = nat_cmp (rank a) (rank b)

-- cell by cell, a prefix first
abbrev pub cells_cmp : List Cell → List Cell → Ordering
cells_cmp = slice_cmp cell_cmp

-- what may stand behind the pack of a cell: nothing, or bytes that begin below FF, as those of further cells
abbrev pub is_tail : List ℕ → Bool
is_tail [] = true
is_tail (b ∷ bytes) = nat_lt b escape_code

-- what may stand there at the end of a range: that, or FF alone
abbrev pub is_stop : List ℕ → Bool
is_stop [] = true
is_stop (b ∷ []) = nat_lt b 256
is_stop (b ∷ c ∷ bytes) = nat_lt b escape_code

-- the cells begin with those that are fixed
abbrev pub BeginWith : List Cell → List Cell → Type 0
BeginWith fixed cells = (rest : List Cell) × (cells ≡ fixed ++ rest)

-- a text or a byte string as its pack begins: without the closing 00
abbrev pub open_pack : Cell → List ℕ
open_pack (Text value) = unicode_string_code ∷ escaped value
open_pack (Bytes value) = byte_string_code ∷ escaped value
open_pack cell = []

-- the cell is a text or a byte string that begins with that of its kind
abbrev pub BeginsAs : Cell → Cell → Type 0
BeginsAs (Text part) (Text value) = BeginsWith part value
BeginsAs (Bytes part) (Bytes value) = BeginsWith part value
BeginsAs part cell = ⊥

-- a text or a byte string
abbrev pub is_string : Cell → Bool
is_string (Text value) = true
is_string (Bytes value) = true
is_string cell = false
