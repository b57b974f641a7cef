use Rattle.std.proofs.Common.{◌≡◌, ◌<◌, ℕ, zero, suc, List, [], ◌∷◌, drop, length, arith}
use Rattle.std.specs.declared.cmp.Ordering.{Ordering}
use Rattle.std.specs.declared.cmp.Ordering.TheVariants.{Greater}
use Rattle.metadata.specs.declared.cells.Cell.{Cell}
use Rattle.metadata.specs.Cell.{cells_at}
use Rattle.metadata.specs.Order.{cells_cmp}
use Rattle.plan_exec.proofs.keyed.compare_key_cells.Goals as goal

-- further cells come behind none
behind_none : (cells others : List Cell) (places other_places : List ℕ) (k : ℕ) (o : Ordering) → k < length places → length other_places ≡ 0 →
    cells_cmp (cells_at cells (drop k places)) (cells_at others other_places) ≡ o → Greater ≡ o
behind_none cells others [] other_places k o l n e = absurd (omega (arith, l))
behind_none cells others (p ∷ places) (q ∷ other_places) k o l n e = absurd (omega (arith, n))
behind_none cells others (p ∷ places) [] zero o l n e = e
behind_none cells others (p ∷ places) [] (suc k) o l n e = behind_none cells others places [] k o (omega (arith, l)) n e

pub returns-in_default : goal.returns-in_default
returns-in_default c =
    behind_none _ _ c.as_slice-place-items.result.now c.loop-place.other_places.now c.loop-place.place-index _ c.loop-place-test.true c.in_default.ensures.cases c.loop-place.invariant
