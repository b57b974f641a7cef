-- The cells of a record are found again in its value, and in no other one.
use Rattle.std.proofs.Common.{◌≡◌, ℕ, Bool, true, false, cond, List, [], ◌∷◌, Option, Some, None, All, refl, sym, ap, subst, ◌∙◌, arith}
use Rattle.std.specs.Prelude.{IfSome}
use Rattle.std.specs.Option.{IfNone, option_map, option_and_then}
use Rattle.std.proofs.lemmas.List.Elements.{All-cons}
use Rattle.tuple_codec.specs.Item.{Item, AreItems, IsItem}
use Rattle.tuple_codec.specs.Item as item
use Rattle.tuple_codec.specs.Spelling.{Spells, spelling}
use Rattle.tuple_codec.proofs.Spellings.{one_spelling, one_tuple, spelling_spells, spells_items}
use Rattle.metadata.specs.declared.cells.Cell.{Cell}
use Rattle.metadata.specs.declared.cells.Cell.TheVariants.{Null, Int, Text, Bytes}
use Rattle.metadata.specs.Cell.{IsCell, cell_of, cells_of, is_word, item_of, items_of}
use Rattle.metadata.specs.Stored.{AreStoredAs, IsOfNoCells}
use Rattle.metadata.proofs.CellItems.{cells_of-items_of, is_tuple-items_of, items_of-injective}

-- the value of cells spells their tuple
pub value_spells : (value : List ℕ) (stored : List Cell) → AreStoredAs value stored → Spells (items_of stored) value
value_spells value stored are =
    let t = is_tuple-items_of stored are.cells in
    subst (Spells (items_of stored)) (sym are.has_value) (spelling_spells (items_of stored) t.items t.depth)

-- ONE: cells with one value are the same
pub one_value : (value : List ℕ) (a b : List Cell) → AreStoredAs value a → AreStoredAs value b → a ≡ b
one_value value a b first second = items_of-injective a b (one_tuple (items_of a) (items_of b) value (value_spells value a first) (value_spells value b second))

-- a cell is that of its item alone
pub cell_again : (one : Item) (cell : Cell) → IsItem one → cell_of one ≡ Some cell → (one ≡ item_of cell) × IsCell cell
cell_again item.null cell is found = let same : Null ≡ cell = cc in subst (λ c. (item.null ≡ item_of c) × IsCell c) same (refl, tt)
cell_again (item.int value) cell is found = by_test (is_word value) refl found
  where
    by_test : (b : Bool) → is_word value ≡ b → cond b (Some (Int value)) None ≡ Some cell → (item.int value ≡ item_of cell) × IsCell cell
    by_test true word some = let same : Int value ≡ cell = cc in subst (λ c. (item.int value ≡ item_of c) × IsCell c) same (refl, word)
    by_test false word none = absurd (cc)
cell_again (item.text value) cell is found = let same : Text value ≡ cell = cc in subst (λ c. (item.text value ≡ item_of c) × IsCell c) same (refl, is)
cell_again (item.bytes value) cell is found = let same : Bytes value ≡ cell = cc in subst (λ c. (item.bytes value ≡ item_of c) × IsCell c) same (refl, is)
cell_again (item.nested items) cell is found = absurd (cc)
cell_again (item.bool value) cell is found = absurd (cc)
cell_again (item.uuid value) cell is found = absurd (cc)
cell_again (item.stamp value) cell is found = absurd (cc)

-- so are cells of their tuple
pub tuple_again : (tuple : List Item) (cells : List Cell) → AreItems (item.items_from tuple) → cells_of tuple ≡ Some cells → (tuple ≡ items_of cells) × All IsCell cells
tuple_again [] cells are found = let none : [] ≡ cells = cc in subst (λ cs. ([] ≡ items_of cs) × All IsCell cs) none (refl, λ k d within. absurd (omega arith))
tuple_again (one ∷ tuple) cells are found = by_cell (cell_of one) refl found (λ cs same. tuple_again tuple cs are.1 same)
  where
    by_cells : (c : Cell) → cell_of one ≡ Some c → (o : Option (List Cell)) → cells_of tuple ≡ o → option_map (λ cs. c ∷ cs) o ≡ Some cells →
        ((cs : List Cell) → cells_of tuple ≡ Some cs → (tuple ≡ items_of cs) × All IsCell cs) → (one ∷ tuple ≡ items_of cells) × All IsCell cells
    by_cells c is None none some go = absurd (cc)
    by_cells c is (Some cs) others some go =
        let same : c ∷ cs ≡ cells = cc in
        let first = cell_again one c are.0 is in
        let rest = go cs others in
        subst (λ l. (one ∷ tuple ≡ items_of l) × All IsCell l) same ((λ i. first.0 i ∷ rest.0 i), All-cons IsCell c cs first.1 rest.1)

    by_cell : (o : Option Cell) → cell_of one ≡ o → option_and_then (λ c. option_map (λ cs. c ∷ cs) (cells_of tuple)) o ≡ Some cells →
        ((cs : List Cell) → cells_of tuple ≡ Some cs → (tuple ≡ items_of cs) × All IsCell cs) → (one ∷ tuple ≡ items_of cells) × All IsCell cells
    by_cell None none some go = absurd (cc)
    by_cell (Some c) is some go = by_cells c is (cells_of tuple) refl some go

-- FOUND: cells of the tuple that a value spells are those of the value
pub cells_found : (value : List ℕ) (tuple : List Item) (found : Option (List Cell)) → Spells tuple value → found ≡ cells_of tuple → IfSome found (AreStoredAs value)
cells_found value tuple None spelled is = tt
cells_found value tuple (Some stored) spelled is =
    let again = tuple_again tuple stored (spells_items tuple value spelled) (sym is) in
    record { cells = again.1; has_value = one_spelling tuple value spelled ∙ ap spelling again.0 }

-- NONE: a value is that of no cells where its tuple is that of none
pub no_cells : (value : List ℕ) (tuple : List Item) (found : Option (List Cell)) → Spells tuple value → found ≡ cells_of tuple → IfNone found (IsOfNoCells value)
no_cells value tuple (Some stored) spelled is = tt
no_cells value tuple None spelled is = λ stored are.
    let same = one_tuple tuple (items_of stored) value spelled (value_spells value stored are) in
    let read = cells_of-items_of stored are.cells in
    let again = ap cells_of same in
    cc
