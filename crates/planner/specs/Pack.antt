-- The packed bytes of cells, and the cells that bytes are packed from.
use Rattle.std.specs.Prelude.{ℕ, Bool, nat_lt, if◌then◌else◌, List, [], Option, Some, None, Ok, Err}
use Rattle.std.specs.Prelude.{unwrap_or, option_and_then}
use Rattle.std.specs.List.{list_all}
use Rattle.tuple_codec.specs.Item.{Item}
use Rattle.tuple_codec.specs.Reading.{tuple_at}
use Rattle.tuple_codec.specs.Spelling.{item_spelling, outer, spelling}
use Rattle.tuple_codec.specs.Subspace.{strinc}
use Rattle.metadata.specs.declared.cells.Cell.{Cell}
use Rattle.metadata.specs.Cell.{cells_of, item_of, items_of}

-- the pack of a cell, and of cells
abbrev pub pack_cell : Cell → List ℕ
pack_cell cell = item_spelling outer (item_of cell)

abbrev pub pack : List Cell → List ℕ
pack cells = spelling (items_of cells)

-- the tuple that bytes spell, if they spell one
abbrev pub tuple_in : List ℕ → Option (List Item)
tuple_in bytes = elim (tuple_at bytes) [ Ok read ↦ Some read.0 | Err fault ↦ None ]

-- each number is a byte
abbrev pub all_bytes : List ℕ → Bool
all_bytes numbers = list_all (λ b. nat_lt b 256) numbers

-- the cells whose pack bytes are, if they are one; numbers that aren't bytes are none
abbrev pub unpack : List ℕ → Option (List Cell)
unpack bytes = if all_bytes bytes then option_and_then cells_of (tuple_in bytes) else None

-- the least bytes above all that begin with these, where they aren't FF alone
abbrev pub behind_all : List ℕ → List ℕ
behind_all bytes = unwrap_or (strinc bytes) []
