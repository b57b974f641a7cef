-- Worked cases of chains, computed from the definitions.
use Rattle.std.proofs.Common.{◌≡◌, ℕ, List, [], ◌∷◌, Some, None, refl, map}
use Rattle.cluster_core.specs.declared.chain.Link.{Link}
use Rattle.cluster_core.specs.Chains.{needed, put, value_at, without}

abbrev link : ℕ → ℕ → Link
link version value = record { version = version; value = Some (value ∷ []) }

abbrev cleared : ℕ → Link
cleared version = record { version = version; value = None }

-- a key that was written at the versions 1 and 5, and cleared at the version 3
abbrev chain : List Link
chain = link 5 0xb ∷ cleared 3 ∷ link 1 0xa ∷ []

pub values : map (λ version. value_at version chain) (0 ∷ 1 ∷ 2 ∷ 3 ∷ 4 ∷ 5 ∷ 6 ∷ []) ≡ None ∷ Some (0xa ∷ []) ∷ Some (0xa ∷ []) ∷ None ∷ None ∷ Some (0xb ∷ []) ∷ Some (0xb ∷ []) ∷ []
values = refl

-- what is needed from a version on: a value that stood before it, until the next one stands, and no absence
pub needed_links :
    map (λ floor. needed floor chain) (2 ∷ 3 ∷ 4 ∷ 5 ∷ 6 ∷ [])
    ≡ chain ∷ (link 5 0xb ∷ []) ∷ (link 5 0xb ∷ []) ∷ (link 5 0xb ∷ []) ∷ (link 5 0xb ∷ []) ∷ []
needed_links = refl

-- of a key that was cleared nothing is needed once that version is the oldest one
pub gone : map (λ floor. needed floor (cleared 3 ∷ link 1 0xa ∷ [])) (2 ∷ 3 ∷ []) ≡ (cleared 3 ∷ link 1 0xa ∷ []) ∷ [] ∷ []
gone = refl

-- a second write at a version takes the place of the first, and both are taken back together
pub written_twice : put 6 None (put 6 (Some (0xc ∷ [])) chain) ≡ cleared 6 ∷ chain
written_twice = refl

pub taken_back : without 6 (put 6 None (put 6 (Some (0xc ∷ [])) chain)) ≡ chain
taken_back = refl
