-- A pack after the others, and its end, are those of one row more.
use Rattle.std.proofs.Common.{◌≡◌, ℕ, ◌+◌, List, [], ◌∷◌, ◌++◌, length, Result, Ok, Err, OnOk, All, refl, sym, ap, subst, ◌∙◌, append_assoc, append-nil, length-append, arith}
use Rattle.std.specs.Prelude.{OnErr}
use Rattle.std.proofs.lemmas.List.Elements.{All-append, All-cons, All-nil}
use Rattle.std.proofs.lemmas.List.Concat.{flat_map-append}
use Rattle.metadata.specs.declared.cells.Cell.{Cell}
use Rattle.metadata.specs.Cell.{IsCell}
use Rattle.metadata.specs.Stored.{AreStoredAs}
use Rattle.packed_rows.specs.OneList.{same_rows}
use Rattle.packed_rows.specs.Packs.{ArePacked, ArePacksOf, ends_from, pack_of, packs_of}

packs_push : (rows : List (List Cell)) (row : List Cell) → packs_of (rows ++ row ∷ []) ≡ packs_of rows ++ pack_of row
packs_push rows row = flat_map-append pack_of rows (row ∷ []) ∙ ap (λ l. packs_of rows ++ l) (append-nil (pack_of row))

ends_push : (start : ℕ) (rows : List (List Cell)) (row : List Cell) →
    ends_from start (rows ++ row ∷ []) ≡ ends_from start rows ++ (start + length (packs_of rows ++ pack_of row)) ∷ []
ends_push start [] row = refl
ends_push start (one ∷ rows) row =
    let first = start + length (pack_of one) in
    let last : first + length (packs_of rows ++ pack_of row) ≡ start + length ((pack_of one ++ packs_of rows) ++ pack_of row) =
    omega (arith, ap length (append_assoc (pack_of one) (packs_of rows) (pack_of row)), length-append (pack_of one) (packs_of rows ++ pack_of row)) in
    ap (λ es. first ∷ es) (ends_push first rows row ∙ ap (λ n. ends_from first rows ++ n ∷ []) last)

-- MORE: the packs and the ends with those of a row
pub one_more : (bytes ends : List ℕ) (kept : ArePacked bytes ends) (pack : List ℕ) (row : List Cell) → AreStoredAs pack row →
    ArePacksOf (bytes ++ pack) (ends ++ length (bytes ++ pack) ∷ []) (kept.rows ++ row ∷ [])
one_more bytes ends kept pack row are =
    let rows = kept.rows in
    let all : bytes ++ pack ≡ packs_of rows ++ pack_of row = ap (λ b. b ++ pack) kept.are.packs ∙ ap (λ p. packs_of rows ++ p) are.has_value in
    record {
      cells = All-append (All IsCell) rows (row ∷ []) kept.are.cells (All-cons (All IsCell) row [] are.cells (All-nil (All IsCell)));
      packs = all ∙ sym (packs_push rows row);
      ended = ap (λ es. es ++ length (bytes ++ pack) ∷ []) kept.are.ended ∙ ap (λ b. ends_from 0 rows ++ length b ∷ []) all
          ∙ ap (λ n. ends_from 0 rows ++ n ∷ []) (sym (plus_none (length (packs_of rows ++ pack_of row)))) ∙ sym (ends_push 0 rows row);
    }
  where
    plus_none : (n : ℕ) → 0 + n ≡ n
    plus_none n = omega arith

-- the same, as calls tell it
are_pushed : (bytes ends more later : List ℕ) (kept : ArePacked bytes ends) (pack : List ℕ) (row : List Cell) → AreStoredAs pack row →
    more ≡ bytes ++ pack → later ≡ ends ++ length more ∷ [] → ArePacksOf more later (kept.rows ++ row ∷ [])
are_pushed bytes ends more later kept pack row are longer ended =
    let rows = kept.rows ++ row ∷ [] in
    let at = subst (λ (bs : List ℕ). ArePacksOf bs (ends ++ length bs ∷ []) rows) (sym longer) (one_more bytes ends kept pack row are) in
    subst (λ (es : List ℕ). ArePacksOf more es rows) (sym ended) at

-- PUSHED: so they are packed again
pub pushed : (bytes ends more later : List ℕ) (kept : ArePacked bytes ends) (pack : List ℕ) (row : List Cell) → AreStoredAs pack row →
    more ≡ bytes ++ pack → later ≡ ends ++ length more ∷ [] → ArePacked more later
pushed bytes ends more later kept pack row are longer ended =
    record { rows = kept.rows ++ row ∷ []; are = are_pushed bytes ends more later kept pack row are longer ended }

-- MORE: and their rows are those that stood there, with the row
pub more_told : (bytes ends more later : List ℕ) (kept : ArePacked bytes ends) (shown : List (List Cell)) (pack : List ℕ) (row : List Cell) →
    kept.rows ≡ shown → AreStoredAs pack row → more ≡ bytes ++ pack → later ≡ ends ++ length more ∷ [] →
    (new : ArePacked more later) → new.rows ≡ shown ++ row ∷ []
more_told bytes ends more later kept shown pack row is are longer ended new =
    same_rows more later new (record { rows = kept.rows ++ row ∷ []; are = are_pushed bytes ends more later kept pack row are longer ended })
    ∙ ap (λ (rows : List (List Cell)). rows ++ row ∷ []) is

-- SAME: bytes and ends that are the same are packed again, and their rows are the same
pub unchanged : (bytes ends more later : List ℕ) → ArePacked bytes ends → more ≡ bytes → later ≡ ends → ArePacked more later
unchanged bytes ends more later kept same ended =
    subst (λ (es : List ℕ). ArePacked more es) (sym ended) (subst (λ (bs : List ℕ). ArePacked bs ends) (sym same) kept)

pub same_told : (bytes ends more later : List ℕ) (kept : ArePacked bytes ends) (shown : List (List Cell)) → kept.rows ≡ shown →
    more ≡ bytes → later ≡ ends → (new : ArePacked more later) → new.rows ≡ shown
same_told bytes ends more later kept shown is same ended new =
    let at = subst (λ (bs : List ℕ). ArePacksOf bs ends kept.rows) (sym same) kept.are in
    same_rows more later new (record { rows = kept.rows; are = subst (λ (es : List ℕ). ArePacksOf more es kept.rows) (sym ended) at }) ∙ is

-- KEPT: whether the call that adds a pack and its end returned `Ok` or not, they are packed
pub kept_after : {T E : Type 0} (r : Result T E) (bytes ends more later : List ℕ) (kept : ArePacked bytes ends) (pack : List ℕ) (row : List Cell) →
    AreStoredAs pack row → OnOk r (more ≡ bytes ++ pack) → OnOk r (later ≡ ends ++ length more ∷ []) →
    OnErr r (more ≡ bytes) → OnErr r (later ≡ ends) → ArePacked more later
kept_after (Ok _) bytes ends more later kept pack row are longer ended same same_ends = pushed bytes ends more later kept pack row are longer ended
kept_after (Err _) bytes ends more later kept pack row are longer ended same same_ends = unchanged bytes ends more later kept same same_ends

-- what is so is told of an error too
pub on_err : {T E P : Type 0} (r : Result T E) → P → OnErr r P
on_err (Ok _) so = tt
on_err (Err _) so = so

-- a list that was cleared, and then had the pack of cells appended, is the pack of the row
pub stored_alone : (pack out cleared : List ℕ) (row : List Cell) → All IsCell row → pack ≡ out → out ≡ cleared ++ pack_of row → cleared ≡ [] →
    AreStoredAs pack row
stored_alone pack out cleared row cells same packed none =
    record { cells = cells; has_value = same ∙ packed ∙ ap (λ l. l ++ pack_of row) none }

are_none : (bytes ends : List ℕ) → bytes ≡ [] → ends ≡ [] → ArePacksOf bytes ends []
are_none bytes ends no_bytes no_ends = record { cells = All-nil (All IsCell); packs = no_bytes; ended = no_ends }

-- NONE: where there are no bytes and no ends, there are no rows
pub none_told : (bytes ends : List ℕ) → bytes ≡ [] → ends ≡ [] → (new : ArePacked bytes ends) → new.rows ≡ []
none_told bytes ends no_bytes no_ends new = same_rows bytes ends new (record { rows = []; are = are_none bytes ends no_bytes no_ends })
