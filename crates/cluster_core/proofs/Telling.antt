-- The cause that is taken from the resolvers when a request is reported.
use Rattle.std.proofs.Common.{◌≡◌, ℕ, zero, suc, true, false, Option, None, Some, List, [], ◌∷◌, map, get_or, set, refl, sym, ap, ◌∙◌}
use Rattle.std.proofs.lemmas.Bool.{false≢true}
use Rattle.std.proofs.lemmas.Option.{unwrap_or-slice_get}
use Rattle.std.specs.Option.{is_some, option_or}
use Rattle.cluster_core.specs.Decision.{Cause}
use Rattle.cluster_core.specs.Progress.{ResolverState, first_kept}

-- a list with an item in the place of one that looks the same looks the same
pub map-set_same : {X Y : Type 0} (f : X → Y) (xs : List X) (i : ℕ) (new d : X) → f new ≡ f (get_or xs i d) → map f (set xs i new) ≡ map f xs
map-set_same f [] i new d same = refl
map-set_same f (y ∷ xs) zero new d same = λ k. same k ∷ map f xs
map-set_same f (y ∷ xs) (suc i) new d same = ap (λ ys. f y ∷ ys) (map-set_same f xs i new d same)

-- the first cause of resolvers is that of the first of them, if it has one, and else that of the others
pub first_some : (place : ℕ) (r : ResolverState) (rs all : List ResolverState) (first : Option Cause) → all ≡ r ∷ rs → r.told ≡ place →
    first ≡ get_or r.causes r.told None → is_some first ≡ true → first ≡ first_kept place all
first_some place r rs all None is told own some = absurd (false≢true some)
first_some place r rs all (Some why) is told own some =
    (λ i. option_or ((own ∙ ap (λ n. get_or r.causes n None) told ∙ sym (unwrap_or-slice_get r.causes place None)) i) (first_kept place rs))
    ∙ ap (first_kept place) (sym is)

pub first_none : (place : ℕ) (r : ResolverState) (rs all : List ResolverState) (first later : Option Cause) → all ≡ r ∷ rs → r.told ≡ place →
    first ≡ get_or r.causes r.told None → is_some first ≡ false → later ≡ first_kept place rs → later ≡ first_kept place all
first_none place r rs all (Some why) later is told own none rest = absurd (false≢true (sym none))
first_none place r rs all None later is told own none rest =
    rest ∙ (λ i. option_or ((own ∙ ap (λ n. get_or r.causes n None) told ∙ sym (unwrap_or-slice_get r.causes place None)) i) (first_kept place rs))
    ∙ ap (first_kept place) (sym is)
