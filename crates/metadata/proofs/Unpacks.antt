-- The cells that are read from bytes, one after another.
use Rattle.std.proofs.Common.{◌≡◌, ℕ, Bool, List, [], ◌∷◌, ◌++◌, false, Option, Some, None, All, refl, length, sym, ap, subst, ◌∙◌, append_assoc, append-nil, arith}
use Rattle.std.specs.Prelude.{◌==◌}
use Rattle.std.proofs.lemmas.Bool.{eqb-false, false≢true}
use Rattle.std.proofs.lemmas.List.{map-append}
use Rattle.std.proofs.lemmas.List.Elements.{All-head, All-tail, All-nil, All-cons, All-append}
use Rattle.tuple_codec.specs.Item.{Item}
use Rattle.tuple_codec.specs.Spelling.{item_spelling, outer, spelling}
use Rattle.tuple_codec.specs.Unpacking.{StandsFirst}
use Rattle.tuple_codec.proofs.Again.{may_follow}
use Rattle.tuple_codec.proofs.Firsts.{first_unique, pack_follows}
use Rattle.tuple_codec.proofs.Spellings.{item_spelled, item_spells}
use Rattle.metadata.specs.declared.cells.Cell.{Cell}
use Rattle.metadata.specs.Cell.{IsCell, cell_of, item_of, items_of}
use Rattle.metadata.specs.Stored.{AreStoredAs, BeginsWithCell, BeginsWithOne, IsOfNoCells}
use Rattle.metadata.proofs.CellItems.{are_items-items_of, cell_of-item_of, is_item-item_of, item_depth-item_of}
use Rattle.metadata.proofs.CellSteps.{spelling_more}
use Rattle.metadata.proofs.StoredCells.{cell_again}

-- the cells whose pack the bytes are begin with these, and what is left is the pack of the others
pub record IsBegun (cells : List Cell) (rest : List ℕ) (stored : List Cell) : Type 0 where
  pub others : List Cell
  pub whole : stored ≡ cells ++ others
  pub left : AreStoredAs rest others

-- cells were read, and these bytes are left
pub record GoesOn (bytes : List ℕ) (cells : List Cell) (rest : List ℕ) : Type 0 where
  pub are : All IsCell cells
  pub whole : bytes ≡ spelling (items_of cells) ++ rest
  pub only : (stored : List Cell) → AreStoredAs bytes stored → IsBegun cells rest stored

pub starts : (bytes : List ℕ) (cells : List Cell) → cells ≡ [] → GoesOn bytes cells bytes
starts bytes cells none = subst (λ cs. GoesOn bytes cs bytes) (sym none) record {
  are = All-nil IsCell;
  whole = refl;
  only = λ stored are. record { others = stored; whole = refl; left = are };
}

-- bytes are left
pub some_left : (rest : List ℕ) → (length rest == 0) ≡ false → length rest ≡ 0 → ⊥
some_left rest some = eqb-false (length rest) 0 some

-- all bytes were read
pub ends : (bytes : List ℕ) (cells : List Cell) (rest : List ℕ) → GoesOn bytes cells rest → length rest ≡ 0 → AreStoredAs bytes cells
ends bytes cells [] on empty = record { cells = on.are; has_value = on.whole ∙ append-nil (spelling (items_of cells)) }
ends bytes cells (b ∷ rest) on empty = absurd (omega arith)

-- the first of stored cells stands first
pub stands : (one : Cell) (others : List Cell) (rest : List ℕ) → AreStoredAs rest (one ∷ others) → BeginsWithCell one (spelling (items_of others)) rest
stands one others rest stored =
    let first = All-head IsCell one others stored.cells in
    let behind = All-tail IsCell one others stored.cells in (
      first,
      record {
        front = item_spelling outer (item_of one);
        spelled = item_spells outer (item_of one) (is_item-item_of one first);
        depth = omega (arith, item_depth-item_of one);
        whole = stored.has_value;
        follows = may_follow (item_of one) (spelling (items_of others)) (pack_follows (items_of others) (are_items-items_of others behind));
      },
    )

-- the item that stands first is a cell
pub cell_first : (bytes : List ℕ) (x : Item) (behind : List ℕ) (cell : Cell) → StandsFirst x behind bytes → cell_of x ≡ Some cell → BeginsWithCell cell behind bytes
cell_first bytes x behind cell first is =
    let again = cell_again x cell (item_spelled outer x first.front first.spelled).0 is in
    (again.1, subst (λ y. StandsFirst y behind bytes) again.0 first)

-- it is none
pub no_cell_first : (bytes : List ℕ) (x : Item) (behind : List ℕ) → StandsFirst x behind bytes → cell_of x ≡ None → (cell : Cell) (rest : List ℕ) → BeginsWithCell cell rest bytes → ⊥
no_cell_first bytes x behind first none cell rest (known, begins) =
    let same = ap cell_of (first_unique bytes x (item_of cell) behind rest first begins).0 ∙ cell_of-item_of cell known in
    cc

-- no cell stands first, so none of which something is so
pub none_of : (so : Cell → Bool) (bytes : List ℕ) → ((cell : Cell) (rest : List ℕ) → BeginsWithCell cell rest bytes → ⊥) → (rest : List ℕ) → BeginsWithOne so rest bytes → ⊥
none_of so bytes none rest (cell, is, begins) = none cell rest begins

-- a cell stands first of which it isn't so, so none of which it is
pub other_first : (so : Cell → Bool) (bytes behind : List ℕ) (cell : Cell) → BeginsWithCell cell behind bytes → so cell ≡ false → (rest : List ℕ) → BeginsWithOne so rest bytes → ⊥
other_first so bytes behind cell (known, first) isnt rest (other, is, begins) =
    let alike : Some cell ≡ Some other = sym (cell_of-item_of cell known) ∙ ap cell_of (first_unique bytes (item_of cell) (item_of other) behind rest first begins.1).0 ∙ cell_of-item_of other begins.0 in
    let same : cell ≡ other = cc in
    false≢true (sym isnt ∙ ap so same ∙ is)

-- in a turn in which bytes are left
module _ (bytes : List ℕ) (cells : List Cell) (rest : List ℕ) (on : GoesOn bytes cells rest) (some : length rest ≡ 0 → ⊥) where
  -- they begin with no cell
  pub none_begins : ((cell : Cell) (left : List ℕ) → BeginsWithCell cell left rest → ⊥) → IsOfNoCells bytes
  none_begins none stored are = let begun = on.only stored are in by begun.others begun.left
    where
      by : (others : List Cell) → AreStoredAs rest others → ⊥
      by [] left = some (ap length left.has_value)
      by (one ∷ others) left = none one (spelling (items_of others)) (stands one others rest left)

  -- they begin with one cell more
  pub goes_on : (more : List Cell) (cell : Cell) (behind : List ℕ) → BeginsWithCell cell behind rest → more ≡ cells ++ cell ∷ [] → GoesOn bytes more behind
  goes_on more cell behind (known, first) pushed =
      let spelled = item_spelled outer (item_of cell) first.front first.spelled in
      subst (λ cs. GoesOn bytes cs behind) (sym pushed) record {
        are = All-append IsCell cells (cell ∷ []) on.are (All-cons IsCell cell [] known (All-nil IsCell));
        whole =
            on.whole ∙ ap (λ r. spelling (items_of cells) ++ r) (first.whole ∙ ap (λ f. f ++ behind) spelled.1)
            ∙ sym (append_assoc (spelling (items_of cells)) (item_spelling outer (item_of cell)) behind)
            ∙ ap (λ s. s ++ behind) (sym (spelling_more (items_of cells) (item_of cell)) ∙ ap spelling (sym (map-append item_of cells (cell ∷ []))));
        only = λ stored are. let begun = on.only stored are in by stored begun.others begun.whole begun.left;
      }
    where
      by : (stored others : List Cell) → stored ≡ cells ++ others → AreStoredAs rest others → IsBegun (cells ++ cell ∷ []) behind stored
      by stored [] whole left = absurd (some (ap length left.has_value))
      by stored (one ∷ others) whole left =
          let begins = stands one others rest left in
          let alike = first_unique rest (item_of cell) (item_of one) behind (spelling (items_of others)) first begins.1 in
          let same : Some cell ≡ Some one = sym (cell_of-item_of cell known) ∙ ap cell_of alike.0 ∙ cell_of-item_of one begins.0 in
          let it : cell ≡ one = cc in
          record {
            others = others;
            whole = whole ∙ ap (λ c. cells ++ c ∷ others) (sym it) ∙ sym (append_assoc cells (cell ∷ []) others);
            left = record { cells = All-tail IsCell one others left.cells; has_value = alike.1 };
          }
