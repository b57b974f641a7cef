-- The packs of cells, taken off the front of bytes one after another.
use Rattle.std.proofs.Common.{◌≡◌, ℕ, ◌+◌, ◌<◌, List, [], ◌∷◌, ◌++◌, get_or, length, take, drop, pos, sym, ap, ◌∙◌, append_assoc, append-nil}
use Rattle.std.proofs.lemmas.Grind.{flat_map-append}
use Rattle.std.proofs.lemmas.List.{append_cancel_left, drop_more, map-append, take-append-drop}
use Rattle.tuple_codec.specs.Item.{int}
use Rattle.tuple_codec.specs.Spelling.{item_spelling, outer, spelling}
use Rattle.tuple_codec.specs.Subspace.{BeginsWith}
use Rattle.metadata.specs.declared.cells.Cell.{Cell}
use Rattle.metadata.specs.Cell.{cell_at, cells_at, item_of, items_of}
use Rattle.metadata.specs.Record.{key_items}

module _ (cells : List Cell) where
  -- the pack of the cells at places, and of the cell at one
  abbrev pack : List ℕ → List ℕ
  pack places = spelling (items_of (cells_at cells places))

  abbrev one_pack : ℕ → List ℕ
  one_pack place = item_spelling outer (item_of (cell_at cells place))

  pack-append : (xs ys : List ℕ) → pack (xs ++ ys) ≡ pack xs ++ pack ys
  pack-append xs ys =
      ap (λ cs. spelling (items_of cs)) (map-append (cell_at cells) xs ys) ∙ ap spelling (map-append item_of (cells_at cells xs) (cells_at cells ys))
      ∙ flat_map-append (item_spelling outer) (items_of (cells_at cells xs)) (items_of (cells_at cells ys))

  module _ (places bytes rest : List ℕ) (i place : ℕ) (within : i < length places) (is : place ≡ get_or places i 0) (so_far : bytes ≡ spelling (items_of (cells_at cells (take i places))) ++ rest) where
    -- the pack of a cell is not the next
    pub stops : (BeginsWith (item_spelling outer (item_of (cell_at cells place))) rest → ⊥) → BeginsWith (spelling (items_of (cells_at cells places))) bytes → ⊥
    stops none (left, e) =
        let tail : List ℕ = pack (drop (i + 1) places) in
        let cut : places ≡ take i places ++ place ∷ drop (i + 1) places = sym (take-append-drop i places) ∙ ap (λ t. take i places ++ t) (drop_more places i 0 within ∙ ap (λ x. x ∷ drop (i + 1) places) (sym is)) in
        let pieces : pack places ≡ pack (take i places) ++ (one_pack place ++ tail) = ap pack cut ∙ pack-append (take i places) (place ∷ drop (i + 1) places) in
        let whole : pack (take i places) ++ rest ≡ pack (take i places) ++ (one_pack place ++ (tail ++ left)) =
        sym so_far ∙ e ∙ ap (λ s. s ++ left) pieces ∙ append_assoc (pack (take i places)) (one_pack place ++ tail) left ∙ ap (λ s. pack (take i places) ++ s) (append_assoc (one_pack place) tail left) in
        none (tail ++ left, append_cancel_left (pack (take i places)) rest (one_pack place ++ (tail ++ left)) whole)

-- ---- a key: the pack of a number, and that of cells

module _ (number : ℕ) (cells : List Cell) (key : List ℕ) where
  module _ (behind : List ℕ) (first : key ≡ item_spelling outer (int (pos number)) ++ behind) where
    -- what stands behind the number in the key of cells
    cells_behind : key ≡ spelling (key_items number cells) → behind ≡ spelling (items_of cells)
    cells_behind e = append_cancel_left (item_spelling outer (int (pos number))) behind (spelling (items_of cells)) (sym first ∙ e)

    pub other_cells : (BeginsWith (spelling (items_of cells)) behind → ⊥) → key ≡ spelling (key_items number cells) → ⊥
    other_cells none e = none ([], cells_behind e ∙ sym (append-nil (spelling (items_of cells))))
