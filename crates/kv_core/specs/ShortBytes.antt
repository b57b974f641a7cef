-- Private: how a short byte string lies in its value.
use Rattle.std.specs.Prelude.{◌≡◌, ℕ, ◌≤◌, List, slice_index}

-- whether the bytes from a place on are zero
abbrev pub AreZeroFrom : ℕ → List ℕ → Type 0
AreZeroFrom place bytes = (k : ℕ) → place ≤ k → slice_index bytes k ≡ 0
