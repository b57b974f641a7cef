-- Cells and the items of a tuple that they are.
use Rattle.std.proofs.Common.{◌≡◌, ℕ, ◌<◌, ◌^◌, pos, negsuc, cond, List, [], ◌∷◌, Some, None, All, map, refl, sym, ap, ◌∙◌, arith}
use Rattle.std.specs.Prelude.{zero, suc}
use Rattle.std.specs.Option.{option_map, option_and_then}
use Rattle.std.proofs.lemmas.List.Elements.{All-head, All-tail, All-map}
use Rattle.std.proofs.lemmas.Bool.{ltb-true}
use Rattle.tuple_codec.specs.Item.{Item, AreItems, IsItem, IsTuple, item_depth, magnitude, nesting}
use Rattle.tuple_codec.specs.Item as item
use Rattle.metadata.specs.declared.cells.Cell.{Cell}
use Rattle.metadata.specs.declared.cells.Cell.TheVariants.{Null, Int, Text, Bytes}
use Rattle.metadata.specs.Cell.{IsCell, item_of, items_of, cell_of, cells_of, cell_at, cells_at}
use Rattle.metadata.specs.Record.{key_items}

-- a cell is found again in its item
pub cell_of-item_of : (cell : Cell) → IsCell cell → cell_of (item_of cell) ≡ Some cell
cell_of-item_of Null h = refl
cell_of-item_of (Int value) h = ap (λ b. cond b (Some (Int value)) None) h
cell_of-item_of (Text value) h = refl
cell_of-item_of (Bytes value) h = refl

-- cells are found again in their tuple
pub cells_of-items_of : (cells : List Cell) → All IsCell cells → cells_of (items_of cells) ≡ Some cells
cells_of-items_of [] h = refl
cells_of-items_of (cell ∷ cells) h =
    ap (option_and_then (λ c. option_map (λ cs. c ∷ cs) (cells_of (items_of cells)))) (cell_of-item_of cell (All-head IsCell cell cells h))
    ∙ ap (option_map (λ cs. cell ∷ cs)) (cells_of-items_of cells (All-tail IsCell cell cells h))

-- the cell of an item, and null where it is none
raw_cell : Item → Cell
raw_cell (item.int value) = Int value
raw_cell (item.text value) = Text value
raw_cell (item.bytes value) = Bytes value
raw_cell other = Null

raw_cell-item_of : (cell : Cell) → raw_cell (item_of cell) ≡ cell
unfolding raw_cell
raw_cell-item_of Null = refl
raw_cell-item_of (Int value) = refl
raw_cell-item_of (Text value) = refl
raw_cell-item_of (Bytes value) = refl

raw_cells-items_of : (cells : List Cell) → map raw_cell (items_of cells) ≡ cells
raw_cells-items_of [] = refl
raw_cells-items_of (cell ∷ cells) = let e = raw_cell-item_of cell in let es = raw_cells-items_of cells in cc

-- different cells are different tuples
pub items_of-injective : (a b : List Cell) → items_of a ≡ items_of b → a ≡ b
items_of-injective a b same = sym (raw_cells-items_of a) ∙ ap (map raw_cell) same ∙ raw_cells-items_of b

-- a cell nests nothing
pub item_depth-item_of : (cell : Cell) → item_depth (item_of cell) ≡ 0
item_depth-item_of Null = refl
item_depth-item_of (Int value) = refl
item_depth-item_of (Text value) = refl
item_depth-item_of (Bytes value) = refl

-- the tuple of cells nests nothing
pub nesting-items_of : (cells : List Cell) → nesting (items_of cells) ≡ 0
nesting-items_of [] = refl
nesting-items_of (cell ∷ cells) = omega (arith, item_depth-item_of cell, nesting-items_of cells)

-- a cell's item may stand in a tuple
pub is_item-item_of : (cell : Cell) → IsCell cell → IsItem (item_of cell)
is_item-item_of Null h = tt
is_item-item_of (Int (pos n)) h = let low = ltb-true n (2 ^ 63) h in omega arith
is_item-item_of (Int (negsuc n)) h = let low = ltb-true n (2 ^ 63) h in omega arith
is_item-item_of (Text value) h = h
is_item-item_of (Bytes value) h = h

pub are_items-items_of : (cells : List Cell) → All IsCell cells → AreItems (item.items_from (items_of cells))
are_items-items_of [] h = tt
are_items-items_of (cell ∷ cells) h = (is_item-item_of cell (All-head IsCell cell cells h), are_items-items_of cells (All-tail IsCell cell cells h))

-- cells are a tuple
pub is_tuple-items_of : (cells : List Cell) → All IsCell cells → IsTuple (items_of cells)
is_tuple-items_of cells h = record {
  items = are_items-items_of cells h;
  depth = omega (arith, nesting-items_of cells);
}

-- a type's number and cells are a tuple
pub is_tuple-key_items : (number : ℕ) (cells : List Cell) → number < 2 ^ 64 → All IsCell cells → IsTuple (key_items number cells)
is_tuple-key_items number cells fits h = record {
  items = (fits, are_items-items_of cells h);
  depth = omega (arith, nesting-items_of cells);
}

-- what stands at a place is a cell
pub is_cell-cell_at : (cells : List Cell) (place : ℕ) → All IsCell cells → IsCell (cell_at cells place)
is_cell-cell_at [] place h = tt
is_cell-cell_at (cell ∷ cells) zero h = All-head IsCell cell cells h
is_cell-cell_at (cell ∷ cells) (suc place) h = is_cell-cell_at cells place (All-tail IsCell cell cells h)

-- the cells at places are cells
pub all-cells_at : (cells : List Cell) (places : List ℕ) → All IsCell cells → All IsCell (cells_at cells places)
all-cells_at cells places h = All-map IsCell (cell_at cells) places (λ k d within. is_cell-cell_at cells _ h)
