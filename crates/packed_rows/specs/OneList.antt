-- Bytes and ends are those of one list of rows at most: so they tell which rows they are.
use Rattle.std.specs.Prelude.{◌≡◌, ℕ, ◌+◌, List, [], ◌∷◌, ◌++◌, length, slice_index_or, All, refl}
use Rattle.std.specs.Coded.{Π_prop, →_prop, Unit-prop}
use Rattle.std.proofs.Common.{sym, ap, ◌∙◌, arith}
use Rattle.std.proofs.Props.{props}
use Rattle.std.proofs.lemmas.List.Elements.{All-head, All-tail}
use mathlib.Core.HLevel.{is_prop→PathP}
use Rattle.metadata.specs.declared.cells.Cell.{Cell}
use Rattle.metadata.specs.declared.cells.Cell.TheVariants.{Null, Int, Text, Bytes}
use Rattle.metadata.specs.Cell.{IsCell}
use Rattle.metadata.proofs.StoredCells.{one_value}
use Rattle.packed_rows.specs.Packs.{ArePacked, ArePacksOf, ends_from, pack_of, packs_of}

-- Private: two lists begin alike where they are the same with what stands after them
parted : (a b c d : List ℕ) → length a ≡ length b → a ++ c ≡ b ++ d → (a ≡ b) × (c ≡ d)
parted [] [] c d len same = (refl, same)
parted [] (y ∷ b) c d len same = absurd (omega (arith, len))
parted (x ∷ a) [] c d len same = absurd (omega (arith, len))
parted (x ∷ a) (y ∷ b) c d len same =
    let first : x ≡ y = cc in
    let others : a ++ c ≡ b ++ d = cc in
    let rest = parted a b c d (omega (arith, len)) others in
    ((λ i. first i ∷ rest.0 i), rest.1)

-- Private: rows with the same packs and the same ends are the same
pub one_list : (start : ℕ) (a b : List (List Cell)) → All (All IsCell) a → All (All IsCell) b →
    packs_of a ≡ packs_of b → ends_from start a ≡ ends_from start b → a ≡ b
one_list start [] [] mine yours packs ends = refl
one_list start [] (y ∷ ys) mine yours packs ends = absurd (cc)
one_list start (x ∷ xs) [] mine yours packs ends = absurd (cc)
one_list start (x ∷ xs) (y ∷ ys) mine yours packs ends =
    let first : start + length (pack_of x) ≡ start + length (pack_of y) = cc in
    let others : ends_from (start + length (pack_of x)) xs ≡ ends_from (start + length (pack_of y)) ys = cc in
    let both = parted (pack_of x) (pack_of y) (packs_of xs) (packs_of ys) (omega (arith, first)) packs in
    let row = one_value (pack_of x) x y
    (record { cells = All-head (All IsCell) x xs mine; has_value = refl })
    (record { cells = All-head (All IsCell) y ys yours; has_value = both.0 }) in
    let first_rest = All-tail (All IsCell) x xs mine in
    let other_rest = All-tail (All IsCell) y ys yours in
    let same_ends = others ∙ ap (λ n. ends_from n ys) (sym first) in
    let rest = one_list (start + length (pack_of x)) xs ys first_rest other_rest both.1 same_ends in
    λ i. row i ∷ rest i

-- Private: a cell is a value of its type in one way
IsCell-prop : (cell : Cell) → IsProp (IsCell cell)
IsCell-prop Null = Unit-prop
IsCell-prop (Int value) = hlevel props
IsCell-prop (Text value) = hlevel props
IsCell-prop (Bytes value) = hlevel props

-- Private: so is each of a list
All-prop : {X : Type 0} (P : X → Type 0) → ((x : X) → IsProp (P x)) → (xs : List X) → IsProp (All P xs)
All-prop P one xs = Π_prop (λ k. Π_prop (λ d. →_prop (one (slice_index_or xs k d))))

-- Private: bytes and ends are those of rows in one way
ArePacksOf-prop : (bytes ends : List ℕ) (rows : List (List Cell)) → IsProp (ArePacksOf bytes ends rows)
ArePacksOf-prop bytes ends rows x y =
    let cells_prop : IsProp (All (All IsCell) rows) = All-prop (All IsCell) (All-prop IsCell IsCell-prop) rows in
    let packs_prop : IsProp (bytes ≡ packs_of rows) = hlevel props in
    let ended_prop : IsProp (ends ≡ ends_from 0 rows) = hlevel props in
    λ i. record {
      cells = cells_prop x.cells y.cells i;
      packs = packs_prop x.packs y.packs i;
      ended = ended_prop x.ended y.ended i;
    }

-- Private: the rows that bytes and ends are those of are the same
pub same_rows : (bytes ends : List ℕ) (a b : ArePacked bytes ends) → a.rows ≡ b.rows
same_rows bytes ends a b =
    one_list 0 a.rows b.rows a.are.cells b.are.cells (sym a.are.packs ∙ b.are.packs) (sym a.are.ended ∙ b.are.ended)

-- Private: so there is no choice of them
pub ArePacked-prop : (bytes ends : List ℕ) → IsProp (ArePacked bytes ends)
ArePacked-prop bytes ends a b =
    let same = same_rows bytes ends a b in
    λ i. record {
      rows = same i;
      are = is_prop→PathP (λ j. ArePacksOf bytes ends (same j)) (λ j. ArePacksOf-prop bytes ends (same j))
          a.are b.are i;
    }
