use Rattle.std.specs.Prelude.{ℕ, List, map, Vec}
use Rattle.std.specs.declared.alloc.Global.{Global}

-- the bytes of each
abbrev pub bytes_of_each : List (Vec ℕ Global) → List (List ℕ)
bytes_of_each vecs = map (λ v. v.items) vecs
