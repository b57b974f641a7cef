-- The number of eight bytes, the least significant one first.
use Rattle.std.proofs.Common.{◌≡◌, ◌==◌, arith, ℕ, ◌<◌, ◌≤◌, cond, List, [], ◌∷◌, Some, None, ap, ◌∙◌, length}
use Rattle.std.specs.Prelude.{get_or}
use Rattle.std.specs.Int.{from_le_bytes, w64}
use Rattle.kv_core.specs.Addition.{number_of}

-- it is what both spellings give
eight_numbers : (a b c d e f g h : ℕ) → from_le_bytes w64 (a ∷ b ∷ c ∷ d ∷ e ∷ f ∷ g ∷ h ∷ []) ≡ number_of (a ∷ b ∷ c ∷ d ∷ e ∷ f ∷ g ∷ h ∷ [])
eight_numbers a b c d e f g h = omega arith

-- EIGHT: where there are eight, it is theirs
pub eight : (bs : List ℕ) (n : ℕ) → 8 ≤ length bs → length bs < 9 →
    n ≡ from_le_bytes w64 (get_or bs 0 0 ∷ get_or bs 1 0 ∷ get_or bs 2 0 ∷ get_or bs 3 0 ∷ get_or bs 4 0 ∷ get_or bs 5 0 ∷ get_or bs 6 0 ∷ get_or bs 7 0 ∷ []) →
    Some n ≡ cond (length bs == 8) (Some (number_of bs)) None
eight [] n low high is = absurd (omega (arith, low))
eight (a ∷ []) n low high is = absurd (omega (arith, low))
eight (a ∷ b ∷ []) n low high is = absurd (omega (arith, low))
eight (a ∷ b ∷ c ∷ []) n low high is = absurd (omega (arith, low))
eight (a ∷ b ∷ c ∷ d ∷ []) n low high is = absurd (omega (arith, low))
eight (a ∷ b ∷ c ∷ d ∷ e ∷ []) n low high is = absurd (omega (arith, low))
eight (a ∷ b ∷ c ∷ d ∷ e ∷ f ∷ []) n low high is = absurd (omega (arith, low))
eight (a ∷ b ∷ c ∷ d ∷ e ∷ f ∷ g ∷ []) n low high is = absurd (omega (arith, low))
eight (a ∷ b ∷ c ∷ d ∷ e ∷ f ∷ g ∷ h ∷ []) n low high is = ap Some (is ∙ eight_numbers a b c d e f g h)
eight (a ∷ b ∷ c ∷ d ∷ e ∷ f ∷ g ∷ h ∷ i ∷ more) n low high is = absurd (omega (arith, high))
