-- Cells with nulls after them.
use Rattle.std.proofs.Common.{◌≡◌, ◌≤◌, ◌+◌, ◌-◌, ℕ, Bool, true, false, List, [], ◌∷◌, ◌++◌, length, refl, ap, ◌∙◌, arith}
use Rattle.std.specs.Prelude.{nat_lt, replicate}
use Rattle.std.proofs.lemmas.Bool.{ltb-false, ltb-true}
use Rattle.std.proofs.lemmas.List.{append_assoc, replicate-append-replicate}
use Rattle.metadata.specs.declared.cells.Cell.{Cell}
use Rattle.metadata.specs.declared.cells.Cell.TheVariants.{Null}

-- one null more
pub one_null : (cells filled : List Cell) (count : ℕ) → length cells ≤ count → filled ≡ cells ++ replicate (count - length cells) Null →
    filled ++ Null ∷ [] ≡ cells ++ replicate (count + 1 - length cells) Null
one_null cells filled count low is =
    let more : count - length cells + 1 ≡ count + 1 - length cells = omega (arith, low) in
    ap (λ l. l ++ Null ∷ []) is ∙ append_assoc cells (replicate (count - length cells) Null) (Null ∷ [])
    ∙ ap (λ l. cells ++ l) (replicate-append-replicate (count - length cells) 1 Null ∙ ap (λ n. replicate n Null) more)

-- there are so many nulls as cells are wanting
pub all_nulls : (cells : List Cell) (counter count : ℕ) → count ≤ counter → length cells ≤ counter → (length cells ≤ count → counter ≤ count) → (count ≤ length cells → counter ≤ length cells) →
    replicate (counter - length cells) Null ≡ replicate (count - length cells) Null
all_nulls cells counter count past low up few = ap (λ n. replicate n Null) (by_test (nat_lt count (length cells)) refl)
  where
    by_test : (b : Bool) → nat_lt count (length cells) ≡ b → counter - length cells ≡ count - length cells
    by_test true is =
        let more = ltb-true count (length cells) is in
        let upto = few (omega (arith, more)) in
        omega (arith, more, upto)
    by_test false is =
        let less = ltb-false count (length cells) is in
        let upto = up less in
        omega (arith, past, upto)
