-- Which known name is nearest to another one.
use Rattle.std.specs.Prelude.{◌≡◌, ◌≤◌, ◌<◌, ℕ, nat_lt, if◌then◌else◌, max, List, ◌∷◌, ◌++◌, length, All}
use Rattle.std.specs.Prelude.{Option, MatchOption}
use Rattle.std.specs.Str.{chars}
use Rattle.strsim.specs.Edits.{osa_table}

-- how many letters of a name are to be mended, where two in each other's place are one mistake
abbrev pub mistakes : List ℕ → List ℕ → ℕ
mistakes name known = (osa_table (chars name) (chars known)).last_row (length (chars known))

-- how many mistakes are too many in a name of so many bytes
abbrev pub too_many : ℕ → ℕ
too_many bytes = if nat_lt bytes 3 then 2 else (if nat_lt bytes 6 then 3 else 4)

-- a known name is near: there are few mistakes, and fewer than the longer of the two has bytes
pub record IsNear (name known : List ℕ) : Type 0 where
  pub few : mistakes name known < too_many (length name)
  pub some_right : mistakes name known < max (length known) (length name)

-- a known name is near, nearer than each before it and as near as any after it
pub record IsNearest (name : List ℕ) (known : List (List ℕ)) (found : List ℕ) : Type 0 where
  pub before : List (List ℕ)
  pub after : List (List ℕ)
  pub among : known ≡ before ++ found ∷ after
  pub near : IsNear name found
  pub nearer : All (λ one. IsNear name one → mistakes name found < mistakes name one) before
  pub nearest : All (λ one. IsNear name one → mistakes name found ≤ mistakes name one) after

-- the nearest of the known names, the first of them; none where none is near
abbrev pub IsNearestIn : List ℕ → List (List ℕ) → Option (List ℕ) → Type 0
IsNearestIn name known found =
    MatchOption found (All (λ one. IsNear name one → ⊥) known) (λ one. IsNearest name known one)

-- Private: the nearest so far, and fewer mistakes than which a nearer one has
pub record IsBest (name : List ℕ) (known : List (List ℕ)) (least : ℕ) (found : Option (List ℕ)) : Type 0 where
  pub nearest : IsNearestIn name known found
  pub bound : MatchOption found (least ≡ too_many (length name)) (λ one. least ≡ mistakes name one)
