-- The value of a field, and what it is in a tuple.
use Rattle.std.specs.Prelude.{◌≡◌, ◌^◌, ℕ, ℤ, pos, negsuc, Bool, true, false, ◌&&◌, List, [], ◌∷◌}
use Rattle.std.specs.Prelude.{not, Option, Some, None, map, unwrap_or, slice_get, nat_lt, if◌then◌else◌}
use Rattle.std.specs.Option.{option_map, option_and_then}
use Rattle.std.specs.Str.{IsUtf8}
use Rattle.tuple_codec.specs.Item.{Item, AreBytes}
use Rattle.tuple_codec.specs.Item as item
use Rattle.metadata.specs.declared.cells.Kind.{Kind}
use Rattle.metadata.specs.declared.cells.Kind.TheVariants as kind
use Rattle.metadata.specs.declared.cells.Cell.{Cell}
use Rattle.metadata.specs.declared.cells.Cell.TheVariants.{Null, Int, Text, Bytes}

-- a whole number of 64 bits
abbrev pub is_word : ℤ → Bool
is_word (pos n) = nat_lt n (2 ^ 63)
is_word (negsuc n) = nat_lt n (2 ^ 63)

-- a cell is a value of its type: a whole number of 64 bits, UTF-8, or bytes
abbrev pub IsCell : Cell → Type 0
IsCell Null = Unit {0}
IsCell (Int value) = is_word value ≡ true
IsCell (Text value) = IsUtf8 value
IsCell (Bytes value) = AreBytes value

-- the item of a tuple that a cell is
abbrev pub item_of : Cell → Item
item_of Null = item.null
item_of (Int value) = item.int value
item_of (Text value) = item.text value
item_of (Bytes value) = item.bytes value

-- the tuple that cells are
abbrev pub items_of : List Cell → List Item
items_of cells = map item_of cells

-- the cell that an item of a tuple is, if it is one
abbrev pub cell_of : Item → Option Cell
cell_of item.null = Some Null
cell_of (item.int value) = if is_word value then Some (Int value) else None
cell_of (item.text value) = Some (Text value)
cell_of (item.bytes value) = Some (Bytes value)
cell_of other = None

-- the cells that a tuple is, if each of its items is one
abbrev pub cells_of : List Item → Option (List Cell)
cells_of [] = Some []
cells_of (one ∷ items) = option_and_then (λ cell. option_map (λ cells. cell ∷ cells) (cells_of items)) (cell_of one)

-- a cell may stand in a field of this kind: it is null or of the kind
abbrev pub fits : Kind → Cell → Bool
fits k Null = true
fits kind.Int (Int value) = true
fits kind.Text (Text value) = true
fits kind.Bytes (Bytes value) = true
fits k cell = false

-- the cell is null
abbrev pub is_null : Cell → Bool
is_null Null = true
is_null cell = false

-- the cell is a value of this kind: of the kind, and not null
abbrev pub is_value : Kind → Cell → Bool
is_value k cell = fits k cell && not (is_null cell)

-- as many cells as kinds, each null or of its kind
abbrev pub all_fit : List Kind → List Cell → Bool
all_fit [] [] = true
all_fit (k ∷ kinds) (cell ∷ cells) = fits k cell && all_fit kinds cells
all_fit kinds cells = false

-- the cell at a place, null past the end
abbrev pub cell_at : List Cell → ℕ → Cell
cell_at cells place = unwrap_or (slice_get cells place) Null

-- the cells at these places
abbrev pub cells_at : List Cell → List ℕ → List Cell
cells_at cells places = map (cell_at cells) places
