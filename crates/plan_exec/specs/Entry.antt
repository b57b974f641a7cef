-- An entry of an index: what it is, and how it is kept.
use Rattle.std.specs.Prelude.{◌≡◌, ◌≤◌, ℕ, List, [], Some, drop, length, unwrap_or}
use Rattle.metadata.specs.declared.cells.Cell.{Cell}
use Rattle.planner.specs.Pack.{unpack}

-- an entry: its key, and the cells of the primary key in it
pub record Entry : Type 0 where
  pub key : List ℕ
  pub primary_key : List Cell

-- Private: the cells that are packed in these bytes
abbrev pub unpacked : List ℕ → List Cell
unpacked bytes = unwrap_or (unpack bytes) []

-- Private: the entry with this key, in which the pack of the primary key begins there
abbrev pub entry_with : List ℕ → ℕ → Entry
entry_with key at = record { key = key; primary_key = unpacked (drop at key) }

-- Private: the pack of a primary key begins there
pub record IsEntryAt (key : List ℕ) (at : ℕ) : Type 0 where
  pub within : at ≤ length key
  pub packed : unpack (drop at key) ≡ Some (unpacked (drop at key))
