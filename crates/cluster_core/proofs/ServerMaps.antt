-- The maps of a server from its last version down.
use Rattle.std.proofs.Common.{arith, fold, ◌≡◌, ℕ, zero, suc, ◌-◌, ◌<◌, ◌≤◌, min, None, Some, [], ◌∷◌, take, refl, sym, ap, ◌∙◌}
use Rattle.std.specs.FinMap.{empty}
use Rattle.std.specs.List.{slice_get}
use Rattle.kv_core.specs.Map.{Map}
use Rattle.cluster_core.specs.Server.{maps_down}
use Rattle.cluster_core.specs.Tier.{oldest}

-- fewer maps are the first of more
pub take_down : (at : ℕ → Map) (version n count : ℕ) → take (suc n) (maps_down at version count) ≡ maps_down at version (min n count)
take_down at version n zero = let none : min n 0 ≡ 0 = omega arith in ap (λ ms. at version ∷ ms) (take_none n) ∙ sym (ap (maps_down at version) none)
  where
    take_none : (n : ℕ) → take {A = Map} n [] ≡ []
    take_none zero = refl
    take_none (suc n) = refl
take_down at version zero (suc count) = let none : min 0 (suc count) ≡ 0 = omega arith in sym (ap (maps_down at version) none)
take_down at version (suc n) (suc count) =
    let less : min (suc n) (suc count) ≡ suc (min n count) = omega arith in
    ap (λ ms. at version ∷ ms) (take_down at (version - 1) n count) ∙ sym (ap (maps_down at version) less)

-- maps that are alike as far back
pub same_down : (at other : ℕ → Map) (version count : ℕ) → ((v : ℕ) → v ≤ version → version - count ≤ v → at v ≡ other v) → maps_down at version count ≡ maps_down other version count
same_down at other version zero same = λ i. same version (omega arith) (omega arith) i ∷ []
same_down at other version (suc count) same = λ i. same version (omega arith) (omega arith) i ∷ same_down at other (version - 1) count (λ v upto from. same v (omega (arith, upto)) (omega (arith, from))) i

-- how far back they go
pub down_at : (at : ℕ → Map) (version count back : ℕ) → back ≤ count → slice_get (maps_down at version count) back ≡ Some (at (version - back))
down_at at version zero zero h = let n : version - 0 ≡ version = omega arith in ap (λ v. Some (at v)) (sym n)
down_at at version zero (suc back) h = absurd (omega (arith, h))
down_at at version (suc count) zero h = let n : version - 0 ≡ version = omega arith in ap (λ v. Some (at v)) (sym n)
down_at at version (suc count) (suc back) h =
    let n : (version - 1) - back ≡ version - suc back = omega arith in
    down_at at (version - 1) count back (omega (arith, h)) ∙ ap (λ v. Some (at v)) n

pub down_past : (at : ℕ → Map) (version count back : ℕ) → count < back → slice_get (maps_down at version count) back ≡ None
down_past at version zero zero h = absurd (omega (arith, h))
down_past at version zero (suc back) h = refl
down_past at version (suc count) zero h = absurd (omega (arith, h))
down_past at version (suc count) (suc back) h = down_past at (version - 1) count back (omega (arith, h))

pub down_first : (at : ℕ → Map) (version count : ℕ) → slice_get (maps_down at version count) 0 ≡ Some (at version)
down_first at version zero = refl
down_first at version (suc count) = refl

-- the oldest of them
last_down : (at : ℕ → Map) (version count : ℕ) (first : Map) → fold (λ (before m : Map). m) first (maps_down at version count) ≡ at (version - count)
last_down at version zero first = let n : version ≡ version - 0 = omega arith in ap at n
last_down at version (suc count) first = let n : (version - 1) - count ≡ version - suc count = omega arith in last_down at (version - 1) count (at version) ∙ ap at n

pub oldest_down : (at : ℕ → Map) (version count : ℕ) → oldest (maps_down at version count) ≡ at (version - count)
oldest_down at version count = last_down at version count empty
