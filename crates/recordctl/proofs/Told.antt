-- What is told of a text.
use Rattle.std.proofs.Common.{◌≡◌, ◌↔◌, List, [], ◌∷◌, length, Option, None, refl, arith}

-- nothing, where there are no problems
pub none_told : {A B : Type 0} (problems : List A) (good : Type 0) → length problems ≡ 0 → (problems ≡ []) ↔ good → (◌≡◌ {A = Option B} None None) ↔ good
none_told [] good e both = (λ _. both.0 refl, λ _. refl)
none_told (p ∷ ps) good e both = absurd (omega (arith, e))
