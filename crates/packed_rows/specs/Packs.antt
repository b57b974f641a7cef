-- The packs of rows, one after another, and where each of them ends.
use Rattle.std.specs.Prelude.{◌≡◌, ℕ, zero, suc, ◌+◌, Some, List, [], ◌∷◌, length, slice_get, slice_index, All}
use Rattle.std.specs.Prelude.{flat_map}
use Rattle.tuple_codec.specs.Spelling.{spelling}
use Rattle.metadata.specs.declared.cells.Cell.{Cell}
use Rattle.metadata.specs.Cell.{IsCell, items_of}
use Rattle.metadata.specs.Stored.{AreStoredAs}

-- Private: the pack of a row: that of the tuple of its cells
abbrev pub pack_of : List Cell → List ℕ
pack_of row = spelling (items_of row)

-- Private: the packs of rows, one after another
abbrev pub packs_of : List (List Cell) → List ℕ
packs_of rows = flat_map pack_of rows

-- Private: where each of the packs ends, if the first one begins at this place
abbrev pub ends_from : ℕ → List (List Cell) → List ℕ
ends_from start [] = []
ends_from start (row ∷ rows) = (start + length (pack_of row)) ∷ ends_from (start + length (pack_of row)) rows

-- Private: where the pack at this place begins: where the one before it ends, and the first one at the start
abbrev pub begin_from : ℕ → List ℕ → ℕ → ℕ
begin_from start ends zero = start
begin_from start ends (suc place) = slice_index ends place

-- Private: these are the packs of the rows and their ends, and each cell is a value of its type
pub record ArePacksOf (bytes ends : List ℕ) (rows : List (List Cell)) : Type 0 where
  pub cells : All (All IsCell) rows
  pub packs : bytes ≡ packs_of rows
  pub ended : ends ≡ ends_from 0 rows

-- Private: these are the packs of some rows, of no others, and their ends
pub record ArePacked (bytes ends : List ℕ) : Type 0 where
  pub rows : List (List Cell)
  pub are : ArePacksOf bytes ends rows

-- the bytes are the pack of the row at this place
pub record IsPackAt (rows : List (List Cell)) (place : ℕ) (bytes : List ℕ) : Type 0 where
  pub row : List Cell
  pub found : slice_get rows place ≡ Some row
  pub packed : AreStoredAs bytes row
