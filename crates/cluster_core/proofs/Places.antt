-- Lists from a place on.
use Rattle.std.proofs.Common.{◌≡◌, ℕ, zero, suc, ◌+◌, ◌<◌, List, [], ◌∷◌, length, drop, get_or, sym, ap, ◌∙◌, arith}

-- a list from a place on begins with what stands there
pub drop_item : {X : Type 0} (xs : List X) (i : ℕ) (x : X) → i < length xs → x ≡ get_or xs i x → drop i xs ≡ x ∷ drop (i + 1) xs
drop_item [] i x below is = absurd (omega (arith, below))
drop_item (y ∷ xs) zero x below is = λ i. sym is i ∷ xs
drop_item (y ∷ xs) (suc i) x below is =
    let n : suc (i + 1) ≡ suc i + 1 = omega arith in
    drop_item xs i x (omega (arith, below)) is ∙ ap (λ m. x ∷ drop m (y ∷ xs)) n
