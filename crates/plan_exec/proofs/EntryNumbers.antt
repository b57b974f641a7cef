-- Which cell has the pack of a whole number.
use Rattle.std.specs.Prelude.{◌≡◌, ℕ, ◌<◌, ◌^◌, [], ◌∷◌, bytes_eq, pos}
use Rattle.std.specs.Bool.{Decides}
use Rattle.std.proofs.Common.{ap, sym, subst, arith}
use Rattle.std.proofs.lemmas.Slice.Eq.{bytes_eq-Decides}
use Rattle.tuple_codec.specs.Item.{int}
use Rattle.tuple_codec.specs.Spelling.{Spells, spelling}
use Rattle.tuple_codec.proofs.Spellings.{one_tuple, spelling_spells}
use Rattle.metadata.specs.declared.cells.Cell.{Cell}
use Rattle.metadata.specs.declared.cells.Cell.TheVariants.{Null, Int, Text, Bytes}
use Rattle.metadata.specs.Cell.{IsCell, item_of}
use Rattle.metadata.proofs.CellItems.{is_tuple-items_of}
use Rattle.std.proofs.lemmas.List.Elements.{All-cons}
use Rattle.planner.specs.Pack.{pack}

number_spells : (n : ℕ) → n < 2 ^ 64 → Spells (int (pos n) ∷ []) (spelling (int (pos n) ∷ []))
number_spells n few = spelling_spells (int (pos n) ∷ []) (few, tt) (omega arith)

cell_spells : (c : Cell) → IsCell c → Spells (item_of c ∷ []) (spelling (item_of c ∷ []))
cell_spells c is = let t = is_tuple-items_of (c ∷ []) (All-cons IsCell c [] is (λ k d within. absurd (omega arith))) in spelling_spells (item_of c ∷ []) t.items t.depth

same_cell : (c : Cell) (n : ℕ) → item_of c ∷ [] ≡ int (pos n) ∷ [] → c ≡ Int (pos n)
same_cell Null n e = cc
same_cell (Int z) n e = cc
same_cell (Text t) n e = cc
same_cell (Bytes b) n e = cc

-- the pack of a cell is that of a number where the cell is the number
pub number_pack : (c : Cell) (n : ℕ) → IsCell c → n < 2 ^ 64 → Decides (bytes_eq (pack (c ∷ [])) (pack (Int (pos n) ∷ []))) (c ≡ Int (pos n))
number_pack c n is few = (
  λ e.
      let same : spelling (item_of c ∷ []) ≡ spelling (int (pos n) ∷ []) = (bytes_eq-Decides (pack (c ∷ [])) (pack (Int (pos n) ∷ []))).0 e in
      same_cell c n (one_tuple (item_of c ∷ []) (int (pos n) ∷ []) (spelling (item_of c ∷ [])) (cell_spells c is) (subst (Spells (int (pos n) ∷ [])) (sym same) (number_spells n few))),
  λ e. (bytes_eq-Decides (pack (c ∷ [])) (pack (Int (pos n) ∷ []))).1 (ap (λ x. pack (x ∷ [])) e),
)
