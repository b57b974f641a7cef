-- A read that its limit doesn't cut short gives the whole range.
use Rattle.std.proofs.Common.{◌≡◌, ℕ, zero, suc, ◌<◌, false, List, [], ◌∷◌, length, take, refl, ap, subst, ◌∙◌, arith}
use Rattle.kv_core.specs.Map.{Map, pairs_in}
use Rattle.kv_core.specs.Range.{KeyRange}
use Rattle.kv_core.specs.Read.{read_of}

take_short : {X : Type 0} (n : ℕ) (xs : List X) → length (take n xs) < n → take n xs ≡ xs
take_short zero xs less = absurd (omega arith)
take_short (suc n) [] less = refl
take_short (suc n) (x ∷ xs) less = ap (λ ys. x ∷ ys) (take_short n xs (omega arith))

pub all_read : (m : Map) (range : KeyRange) (limit : ℕ) (pairs : List (List ℕ × List ℕ)) → length pairs < limit → pairs ≡ read_of m range limit false → pairs ≡ pairs_in m range
all_read m range limit pairs less is = is ∙ take_short limit (pairs_in m range) (subst (λ ps. length ps < limit) is less)
