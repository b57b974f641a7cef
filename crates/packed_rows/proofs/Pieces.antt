-- The pack of each row stands where the ends tell it.
use Rattle.std.proofs.Common.{◌≡◌, ℕ, ◌+◌, ◌-◌, ◌<◌, ◌≤◌, zero, suc, List, [], ◌∷◌, ◌++◌, length, take, drop, get_or, Some, All, refl, sym, ap, subst, ◌∙◌, append_assoc, length-append, arith}
use Rattle.std.specs.Prelude.{slice_get, slice_index}
use Rattle.std.specs.List.{slice_range}
use Rattle.std.proofs.lemmas.Grind.{get_or_default_zero}
use Rattle.std.proofs.lemmas.List.Elements.{All-head, All-tail}
use Rattle.metadata.specs.declared.cells.Cell.{Cell}
use Rattle.metadata.specs.Cell.{IsCell}
use Rattle.metadata.specs.Stored.{AreStoredAs}
use Rattle.metadata.proofs.StoredCells.{one_value}
use Rattle.packed_rows.specs.Packs.{ArePacked, IsPackAt, begin_from, ends_from, pack_of, packs_of}

-- there are as many ends as rows
pub length-ends_from : (start : ℕ) (rows : List (List Cell)) → length (ends_from start rows) ≡ length rows
length-ends_from start [] = refl
length-ends_from start (row ∷ rows) = ap suc (length-ends_from (start + length (pack_of row)) rows)

pub length-ends : (bytes ends : List ℕ) (kept : ArePacked bytes ends) → length ends ≡ length kept.rows
length-ends bytes ends kept = ap length kept.are.ended ∙ length-ends_from 0 kept.rows

-- between begin and end stands the pack of the row at a place
pub record IsPiece (bytes : List ℕ) (begin end : ℕ) (rows : List (List Cell)) (place : ℕ) : Type 0 where
  pub row : List Cell
  pub found : slice_get rows place ≡ Some row
  pub cells : All IsCell row
  pub ordered : begin ≤ end
  pub within : end ≤ length bytes
  pub piece : slice_range bytes begin end ≡ pack_of row

drop_front : (front rest : List ℕ) → drop (length front) (front ++ rest) ≡ rest
drop_front [] rest = refl
drop_front (x ∷ front) rest = drop_front front rest

take_front : (front rest : List ℕ) → take (length front) (front ++ rest) ≡ front
take_front [] rest = refl
take_front (x ∷ front) rest = ap (λ l. x ∷ l) (take_front front rest)

cut : (front one rest : List ℕ) (start : ℕ) → length front ≡ start → slice_range (front ++ (one ++ rest)) start (start + length one) ≡ one
cut front one rest start len =
    let size : start + length one - start ≡ length one = omega arith in
    ap (λ n. take n (drop start (front ++ (one ++ rest)))) size
    ∙ ap (λ n. take (length one) (drop n (front ++ (one ++ rest)))) (sym len)
    ∙ ap (take (length one)) (drop_front front (one ++ rest)) ∙ take_front one rest

begin_next : (first : ℕ) (ends : List ℕ) (place : ℕ) → begin_from first ends place ≡ slice_index (first ∷ ends) place
begin_next first ends zero = refl
begin_next first ends (suc place) = refl

piece_from : (start : ℕ) (front : List ℕ) (rows : List (List Cell)) (place : ℕ) → length front ≡ start → place < length rows → All (All IsCell) rows →
    IsPiece (front ++ packs_of rows) (begin_from start (ends_from start rows) place) (slice_index (ends_from start rows) place) rows place
piece_from start front [] place len within are = absurd (omega (arith, within))
piece_from start front (row ∷ rows) zero len within are = record {
  row = row;
  found = refl;
  cells = All-head (All IsCell) row rows are;
  ordered = omega arith;
  within = omega (arith, len, length-append front (pack_of row ++ packs_of rows), length-append (pack_of row) (packs_of rows));
  piece = cut front (pack_of row) (packs_of rows) start len;
}
piece_from start front (row ∷ rows) (suc place) len within are =
    let first = start + length (pack_of row) in
    let ends = ends_from first rows in
    let longer : length (front ++ pack_of row) ≡ first = omega (arith, len, length-append front (pack_of row)) in
    let next = piece_from first (front ++ pack_of row) rows place longer (omega (arith, within)) (All-tail (All IsCell) row rows are) in
    let begun = subst (λ (b : ℕ). IsPiece ((front ++ pack_of row) ++ packs_of rows) b (slice_index ends place) rows place) (begin_next first ends place) next in
    let whole = subst (λ (bs : List ℕ). IsPiece bs (slice_index (first ∷ ends) place) (slice_index ends place) rows place) (append_assoc front (pack_of row) (packs_of rows)) begun in
    record { row = whole.row; found = whole.found; cells = whole.cells; ordered = whole.ordered; within = whole.within; piece = whole.piece }

-- PIECE: between the end before a place and the end at it
pub piece_at : (bytes ends : List ℕ) (kept : ArePacked bytes ends) (place : ℕ) → place < length ends →
    IsPiece bytes (begin_from 0 ends place) (slice_index ends place) kept.rows place
piece_at bytes ends kept place within =
    let rows = kept.rows in
    let inside : place < length rows = omega (arith, within, length-ends bytes ends kept) in
    let cut_out = piece_from 0 [] rows place refl inside kept.are.cells in
    let ended = subst (λ (es : List ℕ). IsPiece (packs_of rows) (begin_from 0 es place) (slice_index es place) rows place) (sym kept.are.ended) cut_out in
    subst (λ (bs : List ℕ). IsPiece bs (begin_from 0 ends place) (slice_index ends place) rows place) (sym kept.are.packs) ended

-- the same, as the calls that read the ends tell it
pub piece_told : (bytes ends some : List ℕ) (kept : ArePacked bytes ends) (place begin end : ℕ) → place < length ends → some ≡ ends →
    begin ≡ begin_from 0 some place → end ≡ get_or ends place end → IsPiece bytes begin end kept.rows place
piece_told bytes ends some kept place begin end within same begun ended =
    let first : begin ≡ begin_from 0 ends place = begun ∙ ap (λ (es : List ℕ). begin_from 0 es place) same in
    let last : end ≡ slice_index ends place = ended ∙ get_or_default_zero ends place end within in
    let at = subst (λ (b : ℕ). IsPiece bytes b (slice_index ends place) kept.rows place) (sym first) (piece_at bytes ends kept place within) in
    subst (λ (e : ℕ). IsPiece bytes begin e kept.rows place) (sym last) at

-- a piece is the pack of its row
pub pack_of_piece : (bytes : List ℕ) (begin end : ℕ) (rows : List (List Cell)) (place : ℕ) → IsPiece bytes begin end rows place →
    IsPackAt rows place (slice_range bytes begin end)
pack_of_piece bytes begin end rows place it =
    record { row = it.row; found = it.found; packed = record { cells = it.cells; has_value = it.piece } }

-- UNPACKED: the cells of the pack at a place are those of the row there
pub unpacked : (rows : List (List Cell)) (place : ℕ) (pack : List ℕ) (cells : List Cell) → IsPackAt rows place pack → AreStoredAs pack cells →
    Some cells ≡ slice_get rows place
unpacked rows place pack cells at are = ap Some (one_value pack cells at.row are at.packed) ∙ sym at.found

-- where the pack at a place begins, if it isn't the first one
pub begin_after : (ends : List ℕ) (place : ℕ) → (place ≡ 0 → ⊥) → slice_index ends (place - 1) ≡ begin_from 0 ends place
begin_after ends zero later = absurd (later refl)
begin_after ends (suc place) later = let before : suc place - 1 ≡ place = omega arith in ap (slice_index ends) before
