-- Cells beside the kinds that they are to be of.
use Rattle.std.proofs.Common.{◌≡◌, Bool, true, false, ◌&&◌, List, [], ◌∷◌, length, refl, ap, ◌∙◌, arith}
use Rattle.std.specs.Prelude.{◌≢◌}
use Rattle.std.specs.List.{list_all, zip}
use Rattle.metadata.specs.declared.cells.Kind.{Kind}
use Rattle.metadata.specs.declared.cells.Cell.{Cell}
use Rattle.metadata.specs.Cell.{all_fit, fits}

pub and-false : (b : Bool) → (b && false) ≡ false
and-false true = refl
and-false false = refl

pub all_fit-zip : (cells : List Cell) (kinds : List Kind) → length cells ≡ length kinds → list_all (λ (p : Cell × Kind). fits p.1 p.0) (zip cells kinds) ≡ all_fit kinds cells
all_fit-zip [] [] same = refl
all_fit-zip [] (kind ∷ kinds) same = absurd (omega arith)
all_fit-zip (cell ∷ cells) [] same = absurd (omega arith)
all_fit-zip (cell ∷ cells) (kind ∷ kinds) same = ap (λ b. fits kind cell && b) (all_fit-zip cells kinds (omega arith))

-- another number of cells than of kinds
pub all_fit-unequal : (cells : List Cell) (kinds : List Kind) → length cells ≢ length kinds → all_fit kinds cells ≡ false
all_fit-unequal [] [] other = absurd (other refl)
all_fit-unequal [] (kind ∷ kinds) other = refl
all_fit-unequal (cell ∷ cells) [] other = refl
all_fit-unequal (cell ∷ cells) (kind ∷ kinds) other = ap (λ b. fits kind cell && b) (all_fit-unequal cells kinds (omega arith)) ∙ and-false (fits kind cell)
