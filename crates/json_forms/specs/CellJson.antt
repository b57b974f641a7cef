-- The cells that JSON stands for.
use Rattle.std.specs.Prelude.{◌≡◌, ℕ, List, codes, Option, Some, None, option_map, option_and_then}
use Rattle.serde_json.specs.Data.{Data, null, boolean, number, string, array, object}
use Rattle.serde_json.specs.Find.{as_i64, of_integer}
use Rattle.serde_json.specs.Read.{read}
use Rattle.serde_json.specs.Written.{compact_text}
use Rattle.hex.specs.Hex.{encode_lower}
use Rattle.metadata.specs.declared.cells.Cell.{Cell}
use Rattle.metadata.specs.declared.cells.Cell.TheVariants.{Null, Int, Text, Bytes}
use Rattle.json_forms.specs.Json.{only_member, all_in, hex_in, labelled}

-- the bytes that a value stands for: pairs of hexadecimal digits at its one key
abbrev pub bytes_in : Data → Option (List ℕ)
bytes_in d = option_and_then hex_in (only_member (codes "hex") d)

-- the cell that a value stands for
abbrev pub cell_in : Data → Option Cell
cell_in null = Some Null
cell_in (boolean b) = None
cell_in (number n) = option_map Int (as_i64 n)
cell_in (string s) = Some (Text s)
cell_in (array ds) = None
cell_in (object ms) = option_map Bytes (bytes_in (object ms))

-- the JSON of a cell
abbrev pub cell_data : Cell → Data
cell_data Null = null
cell_data (Int n) = number (of_integer n)
cell_data (Text s) = string s
cell_data (Bytes b) = labelled (codes "hex") (encode_lower b)

-- the compact text of a cell
abbrev pub IsTextOfCell : List ℕ → Cell → Type 0
IsTextOfCell text cell = text ≡ compact_text (cell_data cell)

-- the cells that a list stands for
abbrev pub cells_in : Data → Option (List Cell)
cells_in d = all_in cell_in d

-- the rows that a list stands for
abbrev pub rows_in : Data → Option (List (List Cell))
rows_in d = all_in cells_in d

-- a text of JSON that stands for these cells
abbrev pub IsTextOfCells : List ℕ → List Cell → Type 0
IsTextOfCells text cells = option_and_then cells_in (read text) ≡ Some cells

-- a text of JSON that stands for these rows
abbrev pub IsTextOfRows : List ℕ → List (List Cell) → Type 0
IsTextOfRows text rows = option_and_then rows_in (read text) ≡ Some rows
